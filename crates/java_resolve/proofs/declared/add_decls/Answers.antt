use Rattle.std.proofs.Common.{rules, ◌+◌, drop}
use Rattle.indexmap.specs.IndexSet.{contains_text}
use Rattle.java_resolve.specs.Known.{decl_words, decls_words}
use Rattle.java_resolve.proofs.Adding.{owes_less, owes_none, decls_first, decls_end}
use Rattle.java_resolve.proofs.declared.add_decls.Goals as goal

pub loop-decl-preserved : goal.loop-decl-preserved
loop-decl-preserved c =
    let g = c.args.parts.now in
    let i = c.loop-decl.decl-index in
    owes_less (contains_text c.args.set.now) c.loop-decl.set c.add_decl.new.set (decls_words g (drop i c.args.decls.now)) (decl_words g c.decl-item.result) (decls_words g (drop (i + 1) c.args.decls.now)) (decls_words g c.args.decls.now)
    (decls_first g c.args.decls.now i c.decl-item.result (search rules) c.decl-item.is) c.in_ok-add_decl.ensures c.loop-decl.invariant

pub returns : goal.returns
returns c = owes_none c.args.set.now c.loop-decl.set (decls_words c.args.parts.now (drop c.loop-decl.decl-index c.args.decls.now)) (decls_words c.args.parts.now c.args.decls.now) (decls_end c.args.parts.now c.args.decls.now c.loop-decl.decl-index (search rules)) c.loop-decl.invariant
