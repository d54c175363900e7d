use Rattle.std.proofs.Common.{rules, ap}
use Rattle.java_resolve.specs.Known.{decls_words}
use Rattle.java_resolve.proofs.Adding.{adds_by, all_declared}
use Rattle.java_resolve.proofs.declared.declared_words.Goals as goal

pub returns : goal.returns
returns c =
    let g = c.args.parts.now in
    all_declared g c.new-set.result c.add_decls.new.set (λ b. search rules)
    (adds_by c.new-set.result c.add_decls.new.set (decls_words g c.as_slice.result.now) (decls_words g g.decls) (ap (decls_words g) c.as_slice.ensures) c.in_ok-add_decls.ensures)
