-- With a space the text goes on behind it, and without one it is a word. Nothing is assumed.
use Prim.Native.Nat.{◌+◌}
use Rattle.line.proofs.Words.{one_word, some_words, the_rest}
use Rattle.line.proofs.first_word.Goals as goal

pub returns-in-Some : goal.returns-in-Some
returns-in-Some c = rw (the_rest (c.in-Some.n + 1) c.args.text.now) (some_words c.args.text.now _ c.in-Some.ensures)

pub returns-in-None : goal.returns-in-None
returns-in-None c = one_word _ c.in-None.ensures
