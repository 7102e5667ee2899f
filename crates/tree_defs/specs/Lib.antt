pub mod Budgets
pub mod Trees
