pub mod LexerLemmas
pub mod ParserLemmas
