pub mod BudgetLaws
pub mod Counterexamples
pub mod IdleLaws
pub mod NumberLaws
pub mod RuleLaws
pub mod Theorems
