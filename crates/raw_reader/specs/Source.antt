-- The tokens that a source has still to hand out.
use Rattle.std.specs.Prelude.{List}
use Rattle.json.specs.Token.{Token}
use Rattle.raw_reader.specs.declared.source.Strings.{Strings}
use Rattle.raw_reader.specs.declared.source.Strings.TheVariants as strings

abbrev pub tokens_left : Strings → List Token
tokens_left (strings.Lasting left) = left
tokens_left (strings.Passing passing) = passing.reader
