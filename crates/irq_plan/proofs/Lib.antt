pub mod LineForms
pub mod PlanForms
pub mod Reading
mod WorkedPlans
mod RefutedEvents
