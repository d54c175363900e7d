use Rattle.std.proofs.Common.{List, ℕ, ◌≢◌, AllPairs, sym, ap, subst, ◌∙◌}
use Rattle.class_pool.specs.Spelling.{Entry, Head, IsPoolOf}
use Rattle.class_shape.specs.Shapes.{IsClassFile}
use Rattle.workload.proofs.DistinctLaws.{pool_distinct}
use Rattle.workload.proofs.FileLaws.{is_class_file, pool_is, not_too_big}
use Rattle.workload.specs.Layout.{file_of}
use Rattle.workload.proofs.writer.write_class.Goals as goal

pub returns-clause-written : goal.returns-clause-written
returns-clause-written c =
    let e = c.in_ok-bytes.ensures in
    subst (λ (b : List ℕ). IsClassFile b c.args.shape.now) (sym (c.from_vec.ensures ∙ e.written)) (is_class_file c.args.shape.now c.requires.new c.requires.whole e.lists e.pool e.fits)

pub returns-clause-pool : goal.returns-clause-pool
returns-clause-pool c = λ h p.
    let e = c.in_ok-bytes.ensures in
    let q : IsPoolOf (file_of c.args.shape.now) h = subst (λ (b : List ℕ). IsPoolOf b h) (c.from_vec.ensures ∙ e.written) p in
    ap (λ (x : Head). x.entries) (pool_is c.args.shape.now h c.requires.new e.pool e.fits q)

pub returns-clause-small : goal.returns-clause-small
returns-clause-small c = let e = c.in_ok-bytes.ensures in not_too_big c.args.shape.now e.lists e.pool e.fits.spelled

pub returns-clause-distinct : goal.returns-clause-distinct
returns-clause-distinct c = λ h p.
    let e = c.in_ok-bytes.ensures in
    let q : IsPoolOf (file_of c.args.shape.now) h = subst (λ (b : List ℕ). IsPoolOf b h) (c.from_vec.ensures ∙ e.written) p in
    let is = ap (λ (x : Head). x.entries) (pool_is c.args.shape.now h c.requires.new e.pool e.fits q) in
    subst (λ (es : List Entry). AllPairs (λ a b. a ≢ b) es) (sym is) (pool_distinct c.args.shape.now e.pool e.fits.spelled)
