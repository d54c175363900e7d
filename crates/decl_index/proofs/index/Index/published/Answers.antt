use Rattle.std.proofs.Common.{rules, ◌≡◌, ◌⊎◌, ◌++◌, sym, subst, ap, map, List, ℕ}
use Rattle.std.specs.Prelude.{IfErr}
use Rattle.decl_index.specs.declared.change.ChangeFault.{ChangeFault}
use Rattle.decl_index.specs.declared.change.ChangeFault.TheVariants.{OutOfMemory}
use Rattle.decl_index.specs.Steps.{IsPublishFault}
use Rattle.std.specs.Arc.{arc_value}
use Rattle.std.specs.Option.{option_or}
use Rattle.decl_index.specs.History.{Name, count_at, counted, remove, put}
use Rattle.decl_index.specs.Places.{Leaves, count_pairs}
use Rattle.decl_index.specs.Refusals.{IsSound, IsFaultOf}
use Rattle.decl_index.proofs.Places.{leaves-then}
use Rattle.decl_index.proofs.CountLemmas.{counted-at}
use Rattle.decl_index.proofs.Results.{or_then, err_then}
use Rattle.decl_index.proofs.index.Index.published.Goals as goal

pub check-requires-clause-leaves : goal.check-requires-clause-leaves
check-requires-clause-leaves c =
    let first : Leaves (map remove c.args.removes.now) c.args.self.now.classes (map arc_value c.take_all.new.classes.items) = search rules in
    let second : Leaves (map put c.args.puts.now) (map arc_value c.take_all.new.classes.items) (map arc_value c.put_all.new.classes.items) = search rules in
    let whole : Leaves (map remove c.args.removes.now ++ map put c.args.puts.now) c.args.self.now.classes (map arc_value c.put_all.new.classes.items) = leaves-then _ _ _ _ _ first second in
    let old : c.args.self.now.classes ≡ map arc_value c.as_slice-old.result.now = search rules in
    let new : map arc_value c.put_all.new.classes.items ≡ map arc_value c.deref-2.result.now = search rules in
    subst (Leaves (map remove c.args.removes.now ++ map put c.args.puts.now) (map arc_value c.as_slice-old.result.now)) new (subst (λ cs. Leaves (map remove c.args.removes.now ++ map put c.args.puts.now) cs (map arc_value c.put_all.new.classes.items)) old whole)

pub names_after-requires-clause-leaves : goal.names_after-requires-clause-leaves
names_after-requires-clause-leaves c =
    let first : Leaves (map remove c.args.removes.now) c.args.self.now.classes (map arc_value c.take_all.new.classes.items) = search rules in
    let second : Leaves (map put c.args.puts.now) (map arc_value c.take_all.new.classes.items) (map arc_value c.put_all.new.classes.items) = search rules in
    let whole : Leaves (map remove c.args.removes.now ++ map put c.args.puts.now) c.args.self.now.classes (map arc_value c.put_all.new.classes.items) = leaves-then _ _ _ _ _ first second in
    let old : c.args.self.now.classes ≡ map arc_value c.as_slice-old.result.now = search rules in
    let new : map arc_value c.put_all.new.classes.items ≡ map arc_value c.deref-3.result.now = search rules in
    subst (Leaves (map remove c.args.removes.now ++ map put c.args.puts.now) (map arc_value c.as_slice-old.result.now)) new (subst (λ cs. Leaves (map remove c.args.removes.now ++ map put c.args.puts.now) cs (map arc_value c.put_all.new.classes.items)) old whole)

pub returns : goal.returns
returns c =
    let first : Leaves (map remove c.args.removes.now) c.args.self.now.classes (map arc_value c.take_all.new.classes.items) = search rules in
    let second : Leaves (map put c.args.puts.now) (map arc_value c.take_all.new.classes.items) (map arc_value c.put_all.new.classes.items) = search rules in
    let view : c.args.self.now.counts ≡ count_pairs (arc_value c.self.inside.counts) = search rules in
    let sound : IsSound (map arc_value c.put_all.new.classes.items) = search rules in
    let whole : Leaves (map remove c.args.removes.now ++ map put c.args.puts.now) c.args.self.now.classes (map arc_value c.put_all.new.classes.items) = leaves-then _ _ _ _ _ first second in
    let held : arc_value c.in_ok-map_err.field-0 ≡ c.put_all.new.classes = search rules in
    let left : map arc_value c.put_all.new.classes.items ≡ map arc_value (arc_value c.in_ok-map_err.field-0).items = ap (λ v. map arc_value v.items) (sym held) in
    record {
      state = record {
        classes = subst (Leaves (map remove c.args.removes.now ++ map put c.args.puts.now) c.args.self.now.classes) left whole;
        counts = subst (λ (ps : List (Name × ℕ)). (key : Name) → count_at (count_pairs (arc_value c.in_ok-with_counts.field-0)) key ≡ option_or (counted key c.args.counts.now) (count_at ps key)) (sym view) (counted-at (arc_value c.self.inside.counts) (arc_value c.in_ok-with_counts.field-0) c.args.counts.now c.in_ok-with_counts.ensures.counts);
        keys = c.in_ok-with_counts.ensures.keys;
        weights = search rules;
        number = search rules;
        sound = subst IsSound left sound;
      };
      refused = search rules;
    }

pub returns-in_err-check-clause-refused : goal.returns-in_err-check-clause-refused
returns-in_err-check-clause-refused c =
    let first : Leaves (map remove c.args.removes.now) c.args.self.now.classes (map arc_value c.take_all.new.classes.items) = search rules in
    let second : Leaves (map put c.args.puts.now) (map arc_value c.take_all.new.classes.items) (map arc_value c.put_all.new.classes.items) = search rules in
    let Q : ChangeFault → Type 0 = λ fault. (fault ≡ OutOfMemory) ⊎ IsPublishFault c.args.puts.now c.args.removes.now c.args.self.now fault in
    let left = map arc_value c.put_all.new.classes.items in
    let handed : c.deref-2.result.now ≡ c.put_all.new.classes.items = search rules in
    let refused : (c.in_err-check.field-0.0 ≡ OutOfMemory) ⊎ IsFaultOf left c.in_err-check.field-0.0 = subst (λ xs. (c.in_err-check.field-0.0 ≡ OutOfMemory) ⊎ IsFaultOf (map arc_value xs) c.in_err-check.field-0.0) handed c.in_err-check.ensures.refused in
    let why : Q c.in_err-check.field-0.0 = or_then refused (λ f. record { left = left; classes = leaves-then _ _ _ _ _ first second; fault = f }) in
    let same : IfErr c.from_residual-in_err-check.result (λ fault. fault ≡ c.in_err-check.field-0.0) = search rules in
    err_then (λ fault. fault ≡ c.in_err-check.field-0.0) Q c.from_residual-in_err-check.result same (λ fault e. subst Q (sym e) why)
