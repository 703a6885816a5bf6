-- Lemmas of folders of the machine, by subject.
mod EntryLemmas
mod OrderLemmas
mod PathLemmas
mod ReadLemmas
