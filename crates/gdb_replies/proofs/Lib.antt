mod WorkedReplies
