-- Of the table no lemma stands here: the checker computes what is proved of it.
mod Masks
