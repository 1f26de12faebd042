mod Through
mod JudgingLemmas
mod ThreadLemmas
