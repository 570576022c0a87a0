mod RuleLemmas
mod CallLemmas
mod OpeningLemmas
mod LawLemmas
