mod WaitExamples
mod TextLemmas
mod WaitLemmas
mod Examples
mod QueueLemmas
mod StoreLemmas
mod ShownLemmas
mod TakeLemmas
