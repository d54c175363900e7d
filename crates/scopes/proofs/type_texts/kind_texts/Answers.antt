use Rattle.std.proofs.Common.{rules, arith, ◌≡◌, ◌∙◌, ap, ap₂, cond, ℕ, ◌-◌, List, length, length-drop, map, take, drop, codes, [], ◌∷◌, ◌++◌}
use Rattle.std.proofs.lemmas.List.{take_all}
use Rattle.type_names.specs.declared.kinds.Erased.{Erased}
use Rattle.offers.specs.Spellings.{type_text}
use Rattle.offers.specs.Views.{scene}
use Rattle.scopes.proofs.KindTexts.{texts-split}
use Rattle.scopes.proofs.type_texts.kind_texts.Goals as goal

pub returns : goal.returns
returns c =
    let v = scene c.args.spellings.now in
    let ts = c.args.numbers.now.types in
    let void = c.args.numbers.now.void in
    let p = c.place-place.result in
    let early : c.in_ok-all.all ≡ map (type_text v) (take p ts) = c.in_ok-all.ensures ∙ ap (λ (us : List Erased). map (type_text v) (take p us)) c.types-types.ensures in
    let none : c.in_ok-void_texts.field-0 ≡ cond void (codes "void" ∷ []) [] = c.in_ok-void_texts.ensures ∙ ap (λ b. cond b (codes "void" ∷ []) []) c.has_void.ensures in
    let us = c.types-types.result.now in
    let rest : take (length us - p) (drop p us) ≡ drop p us = take_all (length us - p) (drop p us) (omega (arith, length-drop p us)) in
    let late : c.in_ok-type_texts.field-0 ≡ map (type_text v) (drop p ts) = c.in_ok-type_texts.ensures ∙ ap (map (type_text v)) rest ∙ ap (λ (us : List Erased). map (type_text v) (drop p us)) c.types-types.ensures in
    let front : c.append.new.self ≡ c.in_ok-all.all ++ c.in_ok-void_texts.field-0 = search rules in
    let whole : c.append-2.new.self ≡ c.append.new.self ++ c.in_ok-type_texts.field-0 = search rules in
    whole ∙ ap₂ (λ (xs ys : List (List ℕ)). xs ++ ys) (front ∙ ap₂ (λ (xs ys : List (List ℕ)). xs ++ ys) early none) late
    ∙ texts-split v ts void p c.place-place.ensures.value
