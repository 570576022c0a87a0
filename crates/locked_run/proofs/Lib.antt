mod TurnLemmas
mod RunKept
