use Rattle.pch_shell.proofs.calls.work.Goals as goal

-- the two files are those of the words
pub returns-in-Cnf : goal.returns-in-Cnf
returns-in-Cnf g c = rw (c.in-Cnf.is, c.two-spec_bytes-in-Cnf.ensures) c.run-in-Cnf.ensures

-- so is the one file
pub returns-in-Compact : goal.returns-in-Compact
returns-in-Compact g c = rw (c.in-Compact.is, c.one.ensures) c.run-in-Compact.ensures

-- and so are the two files of a specification and a design
pub returns-in-Produce : goal.returns-in-Produce
returns-in-Produce g c = rw (c.in-Produce.is, c.two-spec_bytes-in-Produce.ensures) c.run-in-Produce.ensures

-- no file is looked at for a number of bits
pub returns-in-Demo : goal.returns-in-Demo
returns-in-Demo g c = rw c.in-Demo.is c.run-in-Demo.ensures
