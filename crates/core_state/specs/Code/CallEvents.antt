-- The events of calls and of the flag.
use Rattle.core_state.specs.Words.{Event, Answer, Leave, Post, Publish, Release, Take, Win}

-- the event concerns a call or the flag
abbrev pub IsCallEvent : Event → Type 0
IsCallEvent (Post n start) = Unit {0}
IsCallEvent Win = Unit {0}
IsCallEvent (Take u) = Unit {0}
IsCallEvent Publish = Unit {0}
IsCallEvent (Answer u receipt) = Unit {0}
IsCallEvent Release = Unit {0}
IsCallEvent (Leave receipt) = Unit {0}
IsCallEvent event = ⊥
