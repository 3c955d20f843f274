mod RefutedTables
