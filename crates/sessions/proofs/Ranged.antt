-- Options, counts and weights that are well formed are in their ranges.
use Rattle.std.proofs.Common.{◌≡◌, ℕ, ◌≤◌, ◌&&◌, Bool, true, false, nat_le, subst, refl, arith, List, Option, Some, None, Result, Ok, Err}
use Rattle.std.specs.Prelude.{if◌then◌else◌, codes, bytes_eq}
use Rattle.std.specs.List.{list_all}
use Rattle.std.proofs.lemmas.Bool.{leb-true, and_parts}
use Rattle.serde_json.specs.Data.{Data, Num, unsigned, negative, float, Items, no_items, item, null, boolean, number, string, array, object}
use Rattle.serde_json.specs.Find.{get, as_str}
use Rattle.terms.specs.Faults.{greatest_depth}
use Rattle.lsp_forms.specs.declared.forms.ParamFault.{ParamFault}
use Rattle.lsp_forms.specs.declared.forms.Initialize.{Initialize}
use Rattle.lsp_forms.specs.declared.forms.Command.{Command}
use Rattle.lsp_forms.specs.declared.forms.Command.TheVariants.{Page, Close, Explain, Publish, Withdraw, SetWeights}
use Rattle.lsp_forms.specs.Params.{whole, every, fault, numbered, number_of, member_of, text_of}
use Rattle.lsp_forms.specs.Forms.{whole_or, options_in, options_from, initialize_from, initialize_of, optional}
use Rattle.lsp_forms.specs.Commands.{word, page_at, page_from, page_of, one_at, one_from, close_of, word_if, explain_at, explain_from, explain_of, withdraw_of, published, publish_at, publish_from, publish_of, list_of, named_command, command_from, command_of, only_object, is_text, is_pair, counts, pair_of, size, paths_at, names_at, uses_at}
use Rattle.decl_index.specs.declared.weights.Weights.{Weights}
use Rattle.decl_index.specs.Weighing.{AreWeights}
use Rattle.lsp_forms.specs.Weighing.{weight_names, is_number, is_word, weights_in, may_weigh, weights_of}
use Rattle.lsp_forms.proofs.Weighing.{are-from-may}
use Rattle.sessions.specs.Options.{AreInRange}

chosen : (b : Bool) (n x : ℕ) → (if b then Some n else None) ≡ Some x → (b ≡ true) × (n ≡ x)
chosen true n x e = (refl, cc)
chosen false n x e = absurd cc

whole_in : (n : Num) (low high x : ℕ) → whole n low high ≡ Some x → (low ≤ x) × (x ≤ high)
unfolding whole
whole_in (unsigned n) low high x e =
    let both : ((nat_le low n && nat_le n high) ≡ true) × (n ≡ x) = chosen (nat_le low n && nat_le n high) n x e in
    let parts : (nat_le low n ≡ true) × (nat_le n high ≡ true) = and_parts (nat_le low n) (nat_le n high) both.0 in
    (subst (λ y. low ≤ y) both.1 (leb-true low n parts.0), subst (λ y. y ≤ high) both.1 (leb-true n high parts.1))
whole_in (negative z) low high x e = absurd cc
whole_in (float f) low high x e = absurd cc

whole_or_in : (n : Option Num) (low high usual : ℕ) → low ≤ usual → usual ≤ high → (x : ℕ) → whole_or n low high usual ≡ Some x → (low ≤ x) × (x ≤ high)
unfolding whole_or
whole_or_in None low high usual a b x e =
    let is : usual ≡ x = cc in
    (subst (λ y. low ≤ y) is a, subst (λ y. y ≤ high) is b)
whole_or_in (Some n) low high usual a b x e = whole_in n low high x e

abbrev Within : ℕ → ℕ → Option ℕ → Type 0
Within low high o = (x : ℕ) → o ≡ Some x → (low ≤ x) × (x ≤ high)

options_ranged : (limit depth count : Option ℕ) (o : Initialize) → Within 1 10000 limit → Within 0 greatest_depth depth → Within 1 1000 count → options_in limit depth count ≡ Ok o → AreInRange o
unfolding options_in
options_ranged None d c o pl pd pc e = absurd cc
options_ranged (Some l) None c o pl pd pc e = absurd cc
options_ranged (Some l) (Some d) None o pl pd pc e = absurd cc
options_ranged (Some l) (Some d) (Some c) o pl pd pc e =
    let is : record { limit = l; depth = d; count = c } ≡ o = cc in
    subst AreInRange is (record { some_weight = (pl l refl).0; weight = (pl l refl).1; depth = (pd d refl).1; some_items = (pc c refl).0; items = (pc c refl).1 })

from_ranged : (limit depth count : Option (Option Num)) (o : Initialize) → options_from limit depth count ≡ Ok o → AreInRange o
unfolding options_from
from_ranged None d c o e = absurd cc
from_ranged (Some l) None c o e = absurd cc
from_ranged (Some l) (Some d) None o e = absurd cc
from_ranged (Some l) (Some d) (Some c) o e =
    options_ranged (whole_or l 1 10000 4000) (whole_or d 0 greatest_depth 1) (whole_or c 1 1000 20) o (whole_or_in l 1 10000 4000 (omega arith) (omega arith)) (whole_or_in d 0 greatest_depth 1 (omega arith) (omega arith)) (whole_or_in c 1 1000 20 (omega arith) (omega arith)) e

abbrev usual : Result Initialize ParamFault
usual = Ok (record { limit = 4000; depth = 1; count = 20 })

usual_ranged : (o : Initialize) → usual ≡ Ok o → AreInRange o
usual_ranged o e =
    let is : record { limit = 4000; depth = 1; count = 20 } ≡ o = cc in
    subst AreInRange is (record { some_weight = omega arith; weight = omega arith; depth = omega arith; some_items = omega arith; items = omega arith })

initialize_ranged : (d : Option Data) (o : Initialize) → initialize_from d ≡ Ok o → AreInRange o
unfolding initialize_from
initialize_ranged None o e = usual_ranged o e
initialize_ranged (Some null) o e = usual_ranged o e
initialize_ranged (Some (boolean b)) o e = absurd cc
initialize_ranged (Some (number n)) o e = absurd cc
initialize_ranged (Some (string s)) o e = absurd cc
initialize_ranged (Some (array no_items)) o e = usual_ranged o e
initialize_ranged (Some (array (item d ds))) o e = absurd cc
initialize_ranged (Some (object ms)) o e = from_ranged (optional (get (codes "limit") (object ms))) (optional (get (codes "depth") (object ms))) (optional (get (codes "count") (object ms))) o e

pub options_in_range : (d : Data) (o : Initialize) → initialize_of d ≡ Ok o → AreInRange o
options_in_range d o e = initialize_ranged (get (codes "initializationOptions") d) o e

-- A page that is asked for has from 1 to 1000 items, and weights that are set are in their ranges.
abbrev IsFair : Result Command ParamFault → Type 0
IsFair (Err f) = Unit {0}
IsFair (Ok (Page k n)) = (1 ≤ n) × (n ≤ 1000)
IsFair (Ok (Close k)) = Unit {0}
IsFair (Ok (Explain k i)) = Unit {0}
IsFair (Ok (Publish a b c d e)) = Unit {0}
IsFair (Ok (Withdraw k)) = Unit {0}
IsFair (Ok (SetWeights w)) = AreWeights w

fair_page : (cursor count : Option ℕ) → Within 1 1000 count → IsFair (page_at cursor count)
unfolding page_at
fair_page None count p = tt
fair_page (Some k) None p = tt
fair_page (Some k) (Some n) p = p n refl

fair_page_from : (cursor count : Option Num) → IsFair (page_from cursor count)
unfolding page_from
fair_page_from None count = tt
fair_page_from (Some k) None = tt
fair_page_from (Some k) (Some n) = fair_page (word k) (whole n 1 1000) (whole_in n 1 1000)

fair_one : (f : ℕ → Command) (o : Option ℕ) → ((n : ℕ) → IsFair (Ok (f n))) → IsFair (one_at f o)
unfolding one_at
fair_one f None p = tt
fair_one f (Some n) p = p n

fair_one_from : (f : ℕ → Command) (o : Option Num) → ((n : ℕ) → IsFair (Ok (f n))) → IsFair (one_from f o)
unfolding one_from
fair_one_from f None p = tt
fair_one_from f (Some n) p = fair_one f (word n) p

fair_explain : (cursor : Option ℕ) (i : Option (Option ℕ)) → IsFair (explain_at cursor i)
unfolding explain_at
fair_explain None i = tt
fair_explain (Some k) None = tt
fair_explain (Some k) (Some i) = tt

fair_explain_from : (cursor : Option Num) (i : Option (Option Num)) → IsFair (explain_from cursor i)
unfolding explain_from
fair_explain_from None i = tt
fair_explain_from (Some k) None = tt
fair_explain_from (Some k) (Some i) = fair_explain (word k) (word_if i)

fair_published : (a b c : Result (List (List ℕ)) ParamFault) (d : Result (List (List ℕ × ℕ)) ParamFault) (e : Result (List (List ℕ)) ParamFault) → IsFair (published a b c d e)
unfolding published
fair_published (Err f) b c d e = tt
fair_published (Ok x) (Err f) c d e = tt
fair_published (Ok x) (Ok y) (Err f) d e = tt
fair_published (Ok x) (Ok y) (Ok z) (Err f) e = tt
fair_published (Ok x) (Ok y) (Ok z) (Ok w) (Err f) = tt
fair_published (Ok x) (Ok y) (Ok z) (Ok w) (Ok v) = tt

fair_if : (b : Bool) (x y : Result Command ParamFault) → IsFair x → IsFair y → IsFair (if b then x else y)
fair_if true x y p q = p
fair_if false x y p q = q

-- The lists of a publication, whose items are of the right kinds.
abbrev listed : Items → Items → Items → Items → Items → Result Command ParamFault
listed a b c d e = published (paths_at 0 a) (paths_at (size a) d) (names_at 12 b) (uses_at c) (names_at 22 e)

fair_counted : (a b c d e : Items) → IsFair (if every (λ d. counts (pair_of d)) c then listed a b c d e else Err (fault 2))
fair_counted a b c d e =
    fair_if (every (λ d. counts (pair_of d)) c) (listed a b c d e) (Err (fault 2)) (fair_published (paths_at 0 a) (paths_at (size a) d) (names_at 12 b) (uses_at c) (names_at 22 e)) tt

fair_publish_at : (a b c d e : Items) → IsFair (publish_at a b c d e)
unfolding publish_at
fair_publish_at a b c d e =
    fair_if (every is_text a && (every is_text b && (every is_pair c && (every is_text d && every is_text e)))) (if every (λ d. counts (pair_of d)) c then listed a b c d e else Err (fault 2)) (Err (fault 1)) (fair_counted a b c d e) tt

fair_publish_from : (a b c d e : Option Items) → IsFair (publish_from a b c d e)
unfolding publish_from
fair_publish_from None b c d e = tt
fair_publish_from (Some x) None c d e = tt
fair_publish_from (Some x) (Some y) None d e = tt
fair_publish_from (Some x) (Some y) (Some z) None e = tt
fair_publish_from (Some x) (Some y) (Some z) (Some w) None = tt
fair_publish_from (Some x) (Some y) (Some z) (Some w) (Some v) = fair_publish_at x y z w v

fair_publish : (o : Option Data) → IsFair (publish_of o)
unfolding publish_of
fair_publish None = tt
fair_publish (Some d) = fair_publish_from (list_of (get (codes "put") d)) (list_of (get (codes "remove") d)) (list_of (get (codes "counts") d)) (list_of (get (codes "sources") d)) (list_of (get (codes "known") d))

abbrev or_withdraw : List ℕ → Option Data → Result Command ParamFault
or_withdraw name o = if bytes_eq name (codes "insynth.withdraw") then withdraw_of o else Err (fault 7)

abbrev or_weights : List ℕ → Option Data → Result Command ParamFault
or_weights name o = if bytes_eq name (codes "insynth.weights") then weights_of o else or_withdraw name o

abbrev or_publish : List ℕ → Option Data → Result Command ParamFault
or_publish name o = if bytes_eq name (codes "insynth.publish") then publish_of o else or_weights name o

abbrev or_explain : List ℕ → Option Data → Result Command ParamFault
or_explain name o = if bytes_eq name (codes "insynth.explain") then explain_of o else or_publish name o

abbrev or_close : List ℕ → Option Data → Result Command ParamFault
or_close name o = if bytes_eq name (codes "insynth.close") then close_of o else or_explain name o

fair_withdraw : (name : List ℕ) (o : Option Data) → IsFair (or_withdraw name o)
fair_withdraw name o = fair_if (bytes_eq name (codes "insynth.withdraw")) (withdraw_of o) (Err (fault 7)) (fair_one_from Withdraw (number_of (member_of (codes "through") o)) (λ n. tt)) tt

fair_set : (o : Option Data) (b : Bool) → (list_all (is_word o) weight_names && may_weigh (weights_in o)) ≡ b → IsFair (if b then Ok (SetWeights (weights_in o)) else Err (fault 2))
fair_set o true e = are-from-may (weights_in o) (and_parts (list_all (is_word o) weight_names) (may_weigh (weights_in o)) e).1
fair_set o false e = tt

fair_weights_of : (o : Option Data) → IsFair (weights_of o)
unfolding weights_of
fair_weights_of o =
    fair_if (list_all (is_number o) weight_names) (if list_all (is_word o) weight_names && may_weigh (weights_in o) then Ok (SetWeights (weights_in o)) else Err (fault 2)) (Err (fault 1))
    (fair_set o (list_all (is_word o) weight_names && may_weigh (weights_in o)) refl) tt

fair_or_weights : (name : List ℕ) (o : Option Data) → IsFair (or_weights name o)
fair_or_weights name o = fair_if (bytes_eq name (codes "insynth.weights")) (weights_of o) (or_withdraw name o) (fair_weights_of o) (fair_withdraw name o)

fair_or_publish : (name : List ℕ) (o : Option Data) → IsFair (or_publish name o)
fair_or_publish name o = fair_if (bytes_eq name (codes "insynth.publish")) (publish_of o) (or_weights name o) (fair_publish o) (fair_or_weights name o)

fair_or_explain : (name : List ℕ) (o : Option Data) → IsFair (or_explain name o)
fair_or_explain name o =
    fair_if (bytes_eq name (codes "insynth.explain")) (explain_of o) (or_publish name o) (fair_explain_from (number_of (member_of (codes "cursor") o)) (optional (member_of (codes "item") o))) (fair_or_publish name o)

fair_close : (name : List ℕ) (o : Option Data) → IsFair (or_close name o)
fair_close name o = fair_if (bytes_eq name (codes "insynth.close")) (close_of o) (or_explain name o) (fair_one_from Close (number_of (member_of (codes "cursor") o)) (λ n. tt)) (fair_or_explain name o)

fair_named : (name : List ℕ) (o : Option Data) → IsFair (named_command name o)
unfolding named_command
fair_named name o =
    fair_if (bytes_eq name (codes "insynth.page")) (page_of o) (or_close name o) (fair_page_from (number_of (member_of (codes "cursor") o)) (number_of (member_of (codes "count") o))) (fair_close name o)

fair_from : (name : Option (List ℕ)) (o : Option Data) → IsFair (command_from name o)
unfolding command_from
fair_from None o = tt
fair_from (Some name) o = fair_named name o

fair : (d : Data) → IsFair (command_of d)
fair d = fair_from (text_of (get (codes "command") d)) (only_object (get (codes "arguments") d))

pub fair_weights : (d : Data) (w : Weights) → command_of d ≡ Ok (SetWeights w) → AreWeights w
fair_weights d w e = subst IsFair e (fair d)

pub fair_count : (d : Data) (k n : ℕ) → command_of d ≡ Ok (Page k n) → (1 ≤ n) × (n ≤ 1000)
fair_count d k n e = subst IsFair e (fair d)
