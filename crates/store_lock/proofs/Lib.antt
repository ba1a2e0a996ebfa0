mod Examples
mod TakenLemmas
