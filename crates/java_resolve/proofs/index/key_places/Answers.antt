use Rattle.std.proofs.Common.{rules, ◌∙◌, ap, sym}
use Rattle.name_places.specs.Places.{place_of}
use Rattle.java_resolve.proofs.Indexing.{places_more}
use Rattle.java_resolve.proofs.index.key_places.Goals as goal

pub loop-decl-preserved : goal.loop-decl-preserved
loop-decl-preserved c =
    places_more c.args.names.now c.args.decls.now c.loop-decl.decl-index c.decl-item.result c.loop-decl.places.items c.push.new.self.items c.in-Some.place (search rules) c.decl-item.is c.in_ok-push-in-Some.ensures.items
    (ap (place_of c.args.names.now) (sym c.key.ensures.value) ∙ sym c.in-Some.ensures.value) c.loop-decl.invariant
