use Rattle.program_words.proofs.write_usage.Goals as goal

pub returns : goal.returns
returns g c = rw c.as_bytes.ensures.value at c.write_text.ensures
