pub mod LaunchLemmas
