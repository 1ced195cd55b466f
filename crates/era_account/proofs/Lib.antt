mod OwnersAtEnd
