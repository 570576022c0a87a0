mod NameWords
