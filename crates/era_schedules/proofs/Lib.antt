mod SmallMarks
