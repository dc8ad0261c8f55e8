mod PairLemmas
mod NodeLemmas
