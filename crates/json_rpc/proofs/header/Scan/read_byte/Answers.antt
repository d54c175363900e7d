use Rattle.std.proofs.Common.{◌∙◌, sym}
use Rattle.json_rpc.proofs.Scans.{leads-on}
use Rattle.json_rpc.proofs.header.Scan.read_byte.Goals as goal

pub returns-in-On-clause-on : goal.returns-in-On-clause-on
returns-in-On-clause-on c = leads-on c.args.bytes.now c.args.self.now c.in-On.next c.line_after-self.result c.requires.read c.if-n-ge8192.false (sym c.step.ensures ∙ c.in-On.is) c.line_after-self.ensures.value
