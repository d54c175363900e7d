use Rattle.std.proofs.Common.{◌≡◌, drop}
use Rattle.std.specs.List.{list_all}
use Rattle.sheets.specs.Words.{texts, is_word}
use Rattle.sheets.proofs.kind.all_words.Given as goal

abbrev pub invariant-loop-text : goal.invariant-loop-text
invariant-loop-text l = list_all is_word (texts l.words) ≡ list_all is_word (texts (drop l.text-index l.words))
