-- What a reader must believe.
pub mod Descriptions
pub mod RegisterTexts
pub mod ReplyTexts
pub mod QuestionReplies
