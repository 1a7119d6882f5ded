mod ShownLemmas
