use Rattle.std.proofs.Common.{inl}
use Rattle.stream_words.specs.Asked.{by_words}
use Rattle.stream_words.proofs.options.stream_options.Goals as goal

pub returns-in-Err-clause-refused : goal.returns-in-Err-clause-refused
returns-in-Err-clause-refused g c = by_words (inl c.no_memory.ensures)
