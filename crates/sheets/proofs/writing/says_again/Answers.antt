use Rattle.sheets.proofs.Again.{says-again}
use Rattle.sheets.proofs.writing.says_again.Goals as goal

pub returns : goal.returns
returns c = λ writable short. says-again c.args.parts.now c.args.text.now c.requires.text c.requires.valid c.utf8.text writable short
