use Rattle.verify.proofs.delivery.delivered_miter.Goals as goal

-- a bundle or a configuration with a fault has it whatever the network is
pub returns-in-Err-clause-fault : goal.returns-in-Err-clause-fault
returns-in-Err-clause-fault c = c.in-Err.ensures.fault c.args.net.now
