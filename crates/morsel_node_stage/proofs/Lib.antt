mod EndsLemmas
