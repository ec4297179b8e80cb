mod NextLemmas
mod LeaseLemmas
mod ChangeLemmas
mod ToldLemmas
mod GivenLemmas
mod CountLemmas
