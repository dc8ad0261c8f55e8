-- The numbers by which a query is run. None of them changes what it means.
use Rattle.std.specs.Prelude.{ℕ, ◌+◌, ◌*◌, ◌≤◌}

-- how many workers there are, how large what they hand on is, and a number for hashing
pub record RunOptions : Type 0 where
  pub workers : ℕ  -- how many workers there are
  pub morsel_rows : ℕ  -- how many rows a morsel is to have
  pub chunk_bytes : ℕ  -- how many bytes one read asks at most
  pub distributor_buffer : ℕ  -- how many pieces may wait at one worker
  pub linearizer_buffer : ℕ  -- how many parts of one worker may wait to be put in order
  pub min_values_per_task : ℕ  -- how many values are worth a task
  pub random_state : ℕ  -- where hashing and random choices begin

-- a number from 1 up to this one
pub record IsFrom1To (most n : ℕ) : Type 0 where
  pub least : 1 ≤ n
  pub greatest : n ≤ most

-- each number is within its range
pub record AreInRange (o : RunOptions) : Type 0 where
  pub workers : IsFrom1To 32768 o.workers
  pub morsel_rows : IsFrom1To 4294967295 o.morsel_rows
  pub chunk_bytes : IsFrom1To 4294967295 o.chunk_bytes
  pub distributor_buffer : IsFrom1To 65536 o.distributor_buffer
  pub linearizer_buffer : IsFrom1To 65536 o.linearizer_buffer
  pub min_values_per_task : IsFrom1To 4294967295 o.min_values_per_task

-- what stands where a query says nothing
abbrev pub standard_options : RunOptions
standard_options = record {
  workers = 4;
  morsel_rows = 100000;
  chunk_bytes = 65536;
  distributor_buffer = 4;
  linearizer_buffer = 4;
  min_values_per_task = 16777216;
  random_state = 0;
}

-- these numbers, as a record
abbrev pub run_options_of : ℕ → ℕ → ℕ → ℕ → ℕ → ℕ → ℕ → RunOptions
run_options_of workers morsel_rows chunk_bytes distributor_buffer linearizer_buffer min_values_per_task random_state = record {
  workers = workers;
  morsel_rows = morsel_rows;
  chunk_bytes = chunk_bytes;
  distributor_buffer = distributor_buffer;
  linearizer_buffer = linearizer_buffer;
  min_values_per_task = min_values_per_task;
  random_state = random_state;
}

-- how many pieces may be read ahead of what is written
abbrev pub pieces_ahead : RunOptions → ℕ
pieces_ahead o = o.workers * (3 * (o.distributor_buffer + o.linearizer_buffer) + 16)
