use Rattle.std.proofs.Common.{◌∙◌, sym}
use Rattle.json_rpc.proofs.Scans.{leads-same, scan-end}
use Rattle.json_rpc.proofs.header.Scan.read_on.Goals as goal

pub returns-clause-value : goal.returns-clause-value
returns-clause-value c =
    let scan = c.loop-self.self in
    sym (leads-same c.args.bytes.now c.args.self.now scan c.loop-self.invariant.leads ∙ scan-end scan.read scan.line scan.head c.args.bytes.now scan.read c.loop-self-test.false)
