pub mod GeneratorLemmas
pub mod WriterLemmas
