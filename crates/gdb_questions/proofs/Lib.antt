mod WorkedOrders
mod WorkedQuestions
mod RefutedQuestions
