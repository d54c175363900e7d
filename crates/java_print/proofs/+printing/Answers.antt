use Rattle.std.proofs.Common.{rules, ◌≡◌, ◌≢◌, ℕ, List, ◌++◌, ◌∷◌, [], ◌+◌, ◌==◌, ◌<◌, true, false, length, drop, refl, sym, ap, ◌∙◌, arith, append-nil, append_assoc, get_or}
use Rattle.std.proofs.lemmas.Bool.{eq-eqb, ne_eqb}
use Rattle.terms.specs.Typing.{fits, rows, type_in, joined}
use Rattle.terms.specs.Text.{printed, call_text, text_in, cast_of, argument_text, method_text, field_text, lambda_text, listed, binders_text, parameters}
use Rattle.terms.specs.View.{args_view, expr}
use Rattle.terms.specs.declared.parts.Arg.TheVariants.{Plain, Fun}
use Rattle.terms.specs.declared.term.TermArg as code
use Rattle.java_print.specs.Pieces.{at_place, suits_place, first_text, separator, rest_text, argument_texts, cast_text, owner_text}
use Rattle.java_print.proofs.Equations.{printing, at_place-Plain, at_place-Lam, cast_then}
use Rattle.java_print.proofs.Lists.{before, written, fits-at, texts-at, texts-end, fits-long, rest-more, rest-first, rest-none, split_first, some_split, some_length, printed-none, one_printed, method_pieces, field_pieces, lambda_pieces, owner_left_out_at, owner_bracketed_at, owner_open_at, empty_list}
use Rattle.terms.proofs.Sizes.{size-Head, size-Plain, size-Lam, sizes-of}
use Rattle.java_print.proofs.+printing.Goals as goal

pub arguments::print_argument-print_term-requires : goal.arguments::print_argument-print_term-requires
arguments::print_argument-print_term-requires t c = (omega (arith, c.decreases, size-Plain c.in-Plain.term c.args.arg.now c.in-Plain.is), grind (arith, printing))

pub arguments::print_argument-print_term-requires-in-Fun-wanted : goal.arguments::print_argument-print_term-requires-in-Fun-wanted
arguments::print_argument-print_term-requires-in-Fun-wanted t c = (omega (arith, c.decreases, size-Lam c.in-Lam.body c.args.arg.now c.in-Lam.is), grind (arith, printing))

pub arguments::print_argument-returns-in_ok-print_term-in-Plain-wanted : goal.arguments::print_argument-returns-in_ok-print_term-in-Plain-wanted
arguments::print_argument-returns-in_ok-print_term-in-Plain-wanted t c =
    let g = c.args.parts.now in
    let ctx = rows c.args.printer.now.ctx in
    let term = c.in-Plain.term in
    let b = c.in-Plain-wanted.wanted in
    let cast = cast_of g c.args.crowded (type_in g ctx (expr term)) b in
    let place : first_text (at_place g ctx c.args.crowded c.args.arg.now c.args.wanted.now) ≡ cast_text cast ++ text_in g ctx (expr term)
    = rw (c.in-Plain.is, c.in-Plain-wanted.is) (ap first_text (at_place-Plain g ctx c.args.crowded term b) ∙ cast_then cast (text_in g ctx (expr term))) in
    let after : c.print_cast.new.out ≡ c.args.out.now ++ cast_text cast = search rules in
    before c.args.out.now c.print_cast.new.out c.print_term.new.out (cast_text cast) (text_in g ctx (expr term)) (search rules) after ∙ ap (λ u. c.args.out.now ++ u) (sym place)

pub arguments::print_argument-returns-in_ok-print_term-in-Fun-wanted : goal.arguments::print_argument-returns-in_ok-print_term-in-Fun-wanted
arguments::print_argument-returns-in_ok-print_term-in-Fun-wanted t c =
    let g = c.args.parts.now in
    let inner = rows c.args.printer.now.ctx ++ c.in-Fun-wanted.params ∷ [] in
    let term = c.in-Lam.body in
    let b = c.in-Fun-wanted.wanted in
    let cast = cast_of g c.args.crowded (type_in g inner (expr term)) b in
    let place : first_text (at_place g (rows c.args.printer.now.ctx) c.args.crowded c.args.arg.now c.args.wanted.now) ≡ cast_text cast ++ text_in g inner (expr term)
    = rw (c.in-Lam.is, c.in-Fun-wanted.is) (ap first_text (at_place-Lam g (rows c.args.printer.now.ctx) c.args.crowded term c.in-Fun-wanted.params b) ∙ cast_then cast (text_in g inner (expr term))) in
    let after : c.print_cast-in-Fun-wanted.new.out ≡ c.args.out.now ++ cast_text cast = search rules in
    before c.args.out.now c.print_cast-in-Fun-wanted.new.out c.print_term-in-Fun-wanted.new.out (cast_text cast) (text_in g inner (expr term)) (search rules) after ∙ ap (λ u. c.args.out.now ++ u) (sym place)

pub arguments::print_arguments-loop-i-init : goal.arguments::print_arguments-loop-i-init
arguments::print_arguments-loop-i-init t c =
    let from = c.args.from in
    let old = c.args.out.now in
    let texts = argument_texts c.args.parts.now (rows c.args.printer.now.ctx) c.args.decl.now.crowded (drop from c.args.args.now) (drop from c.args.decl.now.args) in
    let opened : c.push_str.new.self ≡ old ++ 40 ∷ [] = search rules in
    let first : rest_text (from == from) texts ≡ listed texts = ap (λ b. rest_text b texts) (eq-eqb from from refl) ∙ rest-first texts in
    record {
      later = omega arith;
      fit = c.requires.rest;
      same = rw (opened, first) (append_assoc (old ++ 40 ∷ []) (listed texts) (41 ∷ []) ∙ append_assoc old (40 ∷ []) (listed texts ++ 41 ∷ []));
    }

pub arguments::print_arguments-bounds-wanted-i : goal.arguments::print_arguments-bounds-wanted-i
arguments::print_arguments-bounds-wanted-i t c =
    let long = fits-long c.args.parts.now (rows c.args.printer.now.ctx) c.args.args.now c.args.decl.now.args c.requires.typed in
    rw c.as_slice-wanted.ensures (omega (arith, long))

pub arguments::print_arguments-print_argument-requires : goal.arguments::print_arguments-print_argument-requires
arguments::print_arguments-print_argument-requires t c =
    let long = fits-long c.args.parts.now (rows c.args.printer.now.ctx) c.args.args.now c.args.decl.now.args c.requires.typed in
    let wanted = rw c.as_slice-wanted.ensures at c.index-wanted-i.is in
    let smaller = sizes-of c.args.args.now c.loop-i.i c.index-args-i.result (omega arith) c.index-args-i.is in
    (omega (arith, c.decreases, smaller), (fits-at _ _ c.args.args.now c.args.decl.now.args c.loop-i.i c.index-args-i.result c.index-wanted-i.result (omega arith) (omega (arith, long)) c.index-args-i.is wanted c.loop-i.invariant.fit).0)

pub arguments::print_arguments-loop-i-preserved : goal.arguments::print_arguments-loop-i-preserved
arguments::print_arguments-loop-i-preserved t c =
    let g = c.args.parts.now in
    let ctx = rows c.args.printer.now.ctx in
    let crowded = c.args.decl.now.crowded in
    let xs = c.args.args.now in
    let ws = c.args.decl.now.args in
    let i = c.loop-i.i in
    let x = c.index-args-i.result in
    let w = c.index-wanted-i.result in
    let long = fits-long g ctx xs ws c.requires.typed in
    let wanted = rw c.as_slice-wanted.ensures at c.index-wanted-i.is in
    let both = fits-at g ctx xs ws i x w (omega arith) (omega (arith, long)) c.index-args-i.is wanted c.loop-i.invariant.fit in
    let later : (i + 1 == c.args.from) ≡ false = ne_eqb (i + 1) c.args.from (λ e. omega (arith, c.loop-i.invariant.later)) in
    let more = argument_texts g ctx crowded (drop (i + 1) xs) (drop (i + 1) ws) in
    let t1 = first_text (at_place g ctx crowded x w) in
    let piece : rest_text (i == c.args.from) (argument_texts g ctx crowded (drop i xs) (drop i ws)) ≡ separator (i == c.args.from) ++ (t1 ++ rest_text false more)
    = ap (rest_text (i == c.args.from)) (texts-at g ctx crowded xs ws i x w (omega arith) (omega (arith, long)) c.index-args-i.is wanted both.0) ∙ rest-more (i == c.args.from) t1 more in
    let o1 : c.push_str-in-loop-i.new.self ≡ c.loop-i.out ++ separator (i == c.args.from) = search rules in
    record {
      later = omega (arith, c.loop-i.invariant.later);
      fit = both.1;
      same = rw later (ap (λ u. u ++ 41 ∷ []) (written c.loop-i.out c.push_str-in-loop-i.new.self c.print_argument.new.out (separator (i == c.args.from)) t1 (rest_text false more) o1 (search rules)
          ∙ ap (λ u. c.loop-i.out ++ u) (sym piece)) ∙ c.loop-i.invariant.same);
    }

pub arguments::print_arguments-returns : goal.arguments::print_arguments-returns
arguments::print_arguments-returns t c =
    let long = fits-long c.args.parts.now (rows c.args.printer.now.ctx) c.args.args.now c.args.decl.now.args c.requires.typed in
    let b = c.loop-i.i == c.args.from in
    let out = c.loop-i.out in
    let none : rest_text b (argument_texts c.args.parts.now (rows c.args.printer.now.ctx) c.args.decl.now.crowded (drop c.loop-i.i c.args.args.now) (drop c.loop-i.i c.args.decl.now.args)) ≡ []
    = ap (rest_text b) (texts-end c.args.parts.now (rows c.args.printer.now.ctx) c.args.decl.now.crowded c.args.args.now c.args.decl.now.args c.loop-i.i (omega arith) (omega (arith, long))) ∙ rest-none b in
    let shut : c.push_str-2.new.self ≡ out ++ 41 ∷ [] = search rules in
    shut ∙ ap (λ u. u ++ 41 ∷ []) (sym (append-nil out) ∙ ap (λ u. out ++ u) (sym none)) ∙ c.loop-i.invariant.same

pub printing::print_field-returns-then-is_empty : goal.printing::print_field-returns-then-is_empty
printing::print_field-returns-then-is_empty t c =
    let none : c.args.args.now ≡ [] = empty_list _ (grind arith) in
    sym (append-nil c.args.out.now) ∙ ap (λ u. c.args.out.now ++ u) (sym (ap (field_text c.args.name.now c.args.hidden) (printed-none c.args.parts.now (rows c.args.printer.now.ctx) c.args.decl.now.crowded c.args.args.now c.args.decl.now.args none)))

pub printing::print_field-returns : goal.printing::print_field-returns
printing::print_field-returns t c =
    let g = c.args.parts.now in
    let ctx = rows c.args.printer.now.ctx in
    let ps = printed g ctx c.args.decl.now.crowded (args_view c.args.args.now) c.args.decl.now.args in
    let some : 0 < length c.args.args.now = grind arith in
    let split = some_split g ctx c.args.decl.now.crowded c.args.args.now c.args.decl.now.args some c.requires.typed in
    let pieces : field_text c.args.name.now c.args.hidden ps ≡ owner_text c.args.hidden ps ++ c.args.name.now = rw split.1 (field_pieces c.args.name.now c.args.hidden split.0 (printed g ctx c.args.decl.now.crowded (args_view (drop 1 c.args.args.now)) (drop 1 c.args.decl.now.args))) in
    before c.args.out.now c.print_receiver.new.out c.push_str.new.self (owner_text c.args.hidden ps) c.args.name.now (search rules) (search rules) ∙ ap (λ u. c.args.out.now ++ u) (sym pieces)

pub printing::print_lambda-returns-then-is_empty : goal.printing::print_lambda-returns-then-is_empty
printing::print_lambda-returns-then-is_empty t c =
    let none : c.args.args.now ≡ [] = empty_list _ (grind arith) in
    sym (append-nil c.args.out.now) ∙ ap (λ u. c.args.out.now ++ u) (sym (ap (lambda_text c.args.name.now (binders_text c.args.parts.now (length (joined (rows c.args.printer.now.ctx))) (parameters c.args.decl.now.args))) (printed-none c.args.parts.now (rows c.args.printer.now.ctx) c.args.decl.now.crowded c.args.args.now c.args.decl.now.args none)))

pub printing::print_lambda-bounds-wanted-0 : goal.printing::print_lambda-bounds-wanted-0
printing::print_lambda-bounds-wanted-0 t c =
    let long = fits-long c.args.parts.now (rows c.args.printer.now.ctx) c.args.args.now c.args.decl.now.args c.requires.typed in
    let some : 0 < length c.args.args.now = grind arith in
    rw c.as_slice-wanted.ensures (omega (arith, long, some))

pub printing::print_lambda-print_argument-requires : goal.printing::print_lambda-print_argument-requires
printing::print_lambda-print_argument-requires t c =
    let long = fits-long c.args.parts.now (rows c.args.printer.now.ctx) c.args.args.now c.args.decl.now.args c.requires.typed in
    let some : 0 < length c.args.args.now = grind arith in
    let wanted = rw c.as_slice-wanted.ensures at c.index-wanted-0.is in
    let smaller = sizes-of c.args.args.now 0 c.index-args-0.result some c.index-args-0.is in
    (omega (arith, c.decreases, smaller), (fits-at _ _ c.args.args.now c.args.decl.now.args 0 c.index-args-0.result c.index-wanted-0.result some (omega (arith, long, some)) c.index-args-0.is wanted c.requires.typed).0)

pub printing::print_lambda-returns : goal.printing::print_lambda-returns
printing::print_lambda-returns t c =
    let g = c.args.parts.now in
    let ctx = rows c.args.printer.now.ctx in
    let crowded = c.args.decl.now.crowded in
    let xs = c.args.args.now in
    let ws = c.args.decl.now.args in
    let old = c.args.out.now in
    let name = c.args.name.now in
    let names = binders_text g (length (joined ctx)) (parameters ws) in
    let body = first_text (at_place g ctx crowded c.index-args-0.result c.index-wanted-0.result) in
    let long = fits-long g ctx xs ws c.requires.typed in
    let some : 0 < length xs = grind arith in
    let wanted = rw c.as_slice-wanted.ensures at c.index-wanted-0.is in
    let split = split_first g ctx crowded xs ws c.index-args-0.result c.index-wanted-0.result some (omega (arith, long, some)) c.index-args-0.is wanted c.requires.typed in
    let o1 = c.push_str.new.self in
    let o2 = c.push_str-2.new.self in
    let o3 = c.push_str-3.new.self in
    let o4 = c.print_binders.new.out in
    let o5 = c.push_str-4.new.self in
    let o6 = c.print_argument.new.out in
    let arrow : List ℕ = 41 ∷ 32 ∷ 45 ∷ 62 ∷ 32 ∷ [] in
    let middle : List ℕ = 41 ∷ 32 ∷ 40 ∷ [] in
    let count : c.parameters.result ≡ parameters ws = c.parameters.ensures.value ∙ ap parameters c.as_slice-wanted.ensures in
    let bound : o4 ≡ o3 ++ binders_text g c.variables.result c.parameters.result = search rules in
    let bound_all : o4 ≡ o3 ++ names = rw (← count, ← c.variables.ensures.value) bound in
    let r5 : o6 ≡ o4 ++ (arrow ++ body) = before o4 o5 o6 arrow body (search rules) (search rules) in
    let r4 : o6 ≡ o3 ++ (names ++ (arrow ++ body)) = before o3 o4 o6 names (arrow ++ body) r5 bound_all in
    let r3 : o6 ≡ o2 ++ (middle ++ (names ++ (arrow ++ body))) = before o2 o3 o6 middle (names ++ (arrow ++ body)) r4 (search rules) in
    let r2 : o6 ≡ o1 ++ (name ++ (middle ++ (names ++ (arrow ++ body)))) = before o1 o2 o6 name (middle ++ (names ++ (arrow ++ body))) r3 (search rules) in
    let r1 : o6 ≡ old ++ (40 ∷ [] ++ (name ++ (middle ++ (names ++ (arrow ++ body))))) = before old o1 o6 (40 ∷ []) (name ++ (middle ++ (names ++ (arrow ++ body)))) r2 (search rules) in
    let first : argument_text split.first ≡ body = sym (ap first_text split.at) in
    let pieces : lambda_text name names (printed g ctx crowded (args_view xs) ws) ≡ 40 ∷ [] ++ (name ++ (middle ++ (names ++ (arrow ++ body))))
    = ap (lambda_text name names) split.all ∙ lambda_pieces name names split.first (printed g ctx crowded (args_view (drop 1 xs)) (drop 1 ws)) ∙ ap (λ u. 40 ∷ [] ++ (name ++ (middle ++ (names ++ (arrow ++ u))))) first in
    r1 ∙ ap (λ u. old ++ u) (sym pieces)

pub printing::print_method-returns-then-is_empty : goal.printing::print_method-returns-then-is_empty
printing::print_method-returns-then-is_empty t c =
    let none : c.args.args.now ≡ [] = empty_list _ (grind arith) in
    sym (append-nil c.args.out.now) ∙ ap (λ u. c.args.out.now ++ u) (sym (ap (method_text c.args.name.now) (printed-none c.args.parts.now (rows c.args.printer.now.ctx) c.args.decl.now.crowded c.args.args.now c.args.decl.now.args none)))

pub printing::print_method-returns : goal.printing::print_method-returns
printing::print_method-returns t c =
    let g = c.args.parts.now in
    let ctx = rows c.args.printer.now.ctx in
    let crowded = c.args.decl.now.crowded in
    let old = c.args.out.now in
    let name = c.args.name.now in
    let ps = printed g ctx crowded (args_view c.args.args.now) c.args.decl.now.args in
    let others = printed g ctx crowded (args_view (drop 1 c.args.args.now)) (drop 1 c.args.decl.now.args) in
    let some : 0 < length c.args.args.now = grind arith in
    let split = some_split g ctx crowded c.args.args.now c.args.decl.now.args some c.requires.typed in
    let pieces : method_text name ps ≡ owner_text false ps ++ (name ++ call_text others) = rw split.1 (method_pieces name split.0 others) in
    let named : c.print_arguments.new.out ≡ c.print_receiver.new.out ++ (name ++ call_text others)
    = before c.print_receiver.new.out c.push_str.new.self c.print_arguments.new.out name (call_text others) (search rules) (search rules) in
    before old c.print_receiver.new.out c.print_arguments.new.out (owner_text false ps) (name ++ call_text others) named (search rules) ∙ ap (λ u. old ++ u) (sym pieces)

pub printing::print_method-print_arguments-requires : goal.printing::print_method-print_arguments-requires
printing::print_method-print_arguments-requires t c =
    let some : 0 < length c.args.args.now = grind arith in
    let split = some_split c.args.parts.now (rows c.args.printer.now.ctx) c.args.decl.now.crowded c.args.args.now c.args.decl.now.args some c.requires.typed in
    (omega (arith, c.decreases), (c.requires.typed, split.2))

pub printing::print_term-print_declared-requires : goal.printing::print_term-print_declared-requires
printing::print_term-print_declared-requires t c =
    (rw c.as_slice.ensures (omega (arith, c.decreases, size-Head c.in-Head.d c.in-Head.args c.args.term.now c.in-Head.is)), grind (arith, printing))

pub receivers::print_owner-returns : goal.receivers::print_owner-returns
receivers::print_owner-returns t c =
    let ps = at_place c.args.parts.now (rows c.args.printer.now.ctx) c.args.crowded c.args.arg.now c.args.wanted.now in
    let old = c.args.out.now in
    let one = one_printed c.args.parts.now (rows c.args.printer.now.ctx) c.args.crowded c.args.arg.now c.args.wanted.now c.requires.typed in
    let pieces = owner_open_at c.args.keeps_this ps one.0 one.1 (sym c.if-is_left_out.ensures) (sym c.if-is_bracketed.ensures) in
    before old c.print_argument-2.new.out c.push_str-2.new.self (first_text ps) (46 ∷ []) (search rules) (search rules) ∙ ap (λ u. old ++ u) (sym pieces)

pub receivers::print_receiver-bounds-wanted-0 : goal.receivers::print_receiver-bounds-wanted-0
receivers::print_receiver-bounds-wanted-0 t c =
    let long = fits-long c.args.parts.now (rows c.args.printer.now.ctx) c.args.args.now c.args.decl.now.args c.requires.typed in
    rw c.as_slice-wanted.ensures (omega (arith, long, some_length c.args.args.now c.requires.some))

pub receivers::print_receiver-print_owner-requires : goal.receivers::print_receiver-print_owner-requires
receivers::print_receiver-print_owner-requires t c =
    let long = fits-long c.args.parts.now (rows c.args.printer.now.ctx) c.args.args.now c.args.decl.now.args c.requires.typed in
    let some = some_length c.args.args.now c.requires.some in
    let wanted = rw c.as_slice-wanted.ensures at c.index-wanted-0.is in
    let smaller = sizes-of c.args.args.now 0 c.index-args-0.result some c.index-args-0.is in
    (omega (arith, c.decreases, smaller), (fits-at _ _ c.args.args.now c.args.decl.now.args 0 c.index-args-0.result c.index-wanted-0.result some (omega (arith, long, some)) c.index-args-0.is wanted c.requires.typed).0)

pub receivers::print_receiver-returns : goal.receivers::print_receiver-returns
receivers::print_receiver-returns t c =
    let g = c.args.parts.now in
    let ctx = rows c.args.printer.now.ctx in
    let crowded = c.args.decl.now.crowded in
    let long = fits-long g ctx c.args.args.now c.args.decl.now.args c.requires.typed in
    let some = some_length c.args.args.now c.requires.some in
    let wanted = rw c.as_slice-wanted.ensures at c.index-wanted-0.is in
    let split = split_first g ctx crowded c.args.args.now c.args.decl.now.args c.index-args-0.result c.index-wanted-0.result some (omega (arith, long, some)) c.index-args-0.is wanted c.requires.typed in
    let same : owner_text c.args.keeps_this (at_place g ctx crowded c.index-args-0.result c.index-wanted-0.result) ≡ owner_text c.args.keeps_this (printed g ctx crowded (args_view c.args.args.now) c.args.decl.now.args)
    = ap (owner_text c.args.keeps_this) split.at ∙ sym (ap (owner_text c.args.keeps_this) split.all) in
    c.in_ok-print_owner.ensures ∙ ap (λ u. c.args.out.now ++ u) same
