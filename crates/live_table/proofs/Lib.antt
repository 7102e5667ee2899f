mod Prefixes
mod RuleSteps
mod Adding
mod Copies
mod Seeing
mod Running
mod Publications
