mod EqualLemmas
