mod RuleLemmas
mod EndsLemmas
mod LawLemmas
