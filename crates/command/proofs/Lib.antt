mod CheckingLemmas
mod WritingLemmas
mod WordLemmas
mod ArgumentLemmas
mod StatusLemmas
mod SavingLemmas
mod RoundLemmas
mod EntailedLemmas
