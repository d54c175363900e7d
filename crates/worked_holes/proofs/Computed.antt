-- The holes' environments, by computing.
use Rattle.std.proofs.Common.{◌≡◌, refl, [], ◌∷◌, codes, true}
use Rattle.offers.specs.Scenes.{put, sorted}
use Rattle.offers.specs.Reach.{chain_by, is_accessible, is_in_reach, is_offered, offered}
use Rattle.offers.specs.Spellings.{spells, shortest, class_spelling, with_dims, spelling, type_text}
use Rattle.offers.specs.Candidates.{is_candidate, candidates}
use Rattle.offers.specs.Omissions.{same_types, with_first, after_two, overrides, after_three, is_crowded, is_written, after_four, taken_names, is_hidden, after_five}
use Rattle.offers.specs.Functional.{faces_above, is_whole, is_given, is_of_object, method_in, faces}
use Rattle.offers.specs.Pairs.{row_of, rows_of}
use Rattle.offers.specs.Types.{types_of, mentions_void}
use Rattle.scopes.specs.Kinds.{listed, place_among, number_in}
use Rattle.scopes.specs.Declarations.{weight_of, member_decl, face_decl, decls_of}
use Rattle.scopes.specs.Binders.{is_variable, binder_of}
use Rattle.scopes.specs.Environments.{environment_of}
use Rattle.scopes.specs.Rows.{overloads, of_overloads, overriding, of_overriding, two_promises, of_two_promises, readers, of_readers, hidden_field, of_hidden_field, no_result, of_no_result}
use Rattle.known_classes.specs.Merging.{last_named, added, merged}
use Rattle.known_classes.specs.Known.{class_named, comes_to, canonical_by, class_by_canonical}
use Rattle.known_classes.specs.Nested.{nested_class}
use Rattle.class_summary.specs.Sources.{joined, around_by}
use Rattle.class_summary.specs.Flags.{has_flag}
use Rattle.class_summary.specs.Names.{first_from, class_with, member_from, enclosing, spelled, imported, below, starred, of_java_lang, named_class, simple_class, member_class, class_of_name, primitive, primitive_of, base_of, denoted_type}
use Rattle.class_summary.specs.Variables.{bound_of, variable_in, variable_of, through}
use Rattle.java_units.specs.Signs.{has, reserved}
use Rattle.java_tokens.specs.Classes.{is_digit}
use Rattle.type_names.specs.Names.{object_name}
use Rattle.name_places.specs.Places.{place_of}
use Rattle.subtyping.specs.Places.{Ancestry}
use Rattle.class_summary.specs.SourceSummaries.{summaries_from, supers_of, first_super, super_of, field_of, param_of, method_of, methods_from}
use Rattle.decl_index.specs.History.{use_of}
use Rattle.java_units.specs.Identifiers.{is_ascii_identifier}
use Rattle.offers.specs.Order.{is_below_at, is_ancestor, is_one_of}
use Rattle.worked_holes.specs.Worked.{of_two_methods, of_an_override, of_two_interfaces, of_streams, of_a_sink}
use Rattle.worked_holes.proofs.Ancestries.{is_table, is_rising, stands}
use Rattle.worked_holes.proofs.Seen.{is_named, known_by, seen}

abbrev pub above_overloads : Ancestry
above_overloads = record { names = codes "q/T" ∷ codes "q/Use" ∷ object_name ∷ []; rows = (2 ∷ []) ∷ (2 ∷ []) ∷ [] ∷ [] }

abbrev pub above_overriding : Ancestry
above_overriding = record { names = codes "q/A" ∷ codes "q/B" ∷ codes "q/Use" ∷ object_name ∷ []; rows = (3 ∷ []) ∷ (0 ∷ 3 ∷ []) ∷ (3 ∷ []) ∷ [] ∷ [] }

abbrev pub above_two_promises : Ancestry
above_two_promises = record { names = codes "q/B" ∷ codes "q/I" ∷ codes "q/J" ∷ codes "q/Use" ∷ object_name ∷ []; rows = (1 ∷ 2 ∷ 4 ∷ []) ∷ (4 ∷ []) ∷ (4 ∷ []) ∷ (4 ∷ []) ∷ [] ∷ [] }

abbrev pub above_readers : Ancestry
above_readers = record { names = codes "Demo" ∷ codes "java/io/BufferedReader" ∷ codes "java/io/FileReader" ∷ codes "java/io/Reader" ∷ object_name ∷ []; rows = (4 ∷ []) ∷ (3 ∷ 4 ∷ []) ∷ (3 ∷ 4 ∷ []) ∷ (4 ∷ []) ∷ [] ∷ [] }

abbrev pub above_hidden_field : Ancestry
above_hidden_field = record { names = codes "P" ∷ object_name ∷ []; rows = (1 ∷ []) ∷ [] ∷ [] }

abbrev pub above_no_result : Ancestry
above_no_result = record { names = codes "q/K" ∷ codes "q/Use" ∷ object_name ∷ []; rows = (2 ∷ []) ∷ (2 ∷ []) ∷ [] ∷ [] }

-- each table is that of the classes, and what is seen by it and the test of identifiers has the environment
pub record AreComputed : Type 0 where
  pub overloads_table : is_table (known_by of_two_methods overloads.unit) above_overloads ≡ true
  pub overloads_is : environment_of (seen of_two_methods overloads.unit overloads.site above_overloads is_named) 45 1 ≡ of_overloads
  pub overriding_table : is_table (known_by of_an_override overriding.unit) above_overriding ≡ true
  pub overriding_is : environment_of (seen of_an_override overriding.unit overriding.site above_overriding is_named) 45 1 ≡ of_overriding
  pub two_promises_table : is_table (known_by of_two_interfaces two_promises.unit) above_two_promises ≡ true
  pub two_promises_is : environment_of (seen of_two_interfaces two_promises.unit two_promises.site above_two_promises is_named) 45 1 ≡ of_two_promises
  pub readers_table : is_table (known_by of_streams readers.unit) above_readers ≡ true
  pub readers_is : environment_of (seen of_streams readers.unit readers.site above_readers is_named) 4000 1 ≡ of_readers
  pub hidden_field_table : is_table (known_by [] hidden_field.unit) above_hidden_field ≡ true
  pub hidden_field_is : environment_of (seen [] hidden_field.unit hidden_field.site above_hidden_field is_named) 30 1 ≡ of_hidden_field
  pub no_result_table : is_table (known_by of_a_sink no_result.unit) above_no_result ≡ true
  pub no_result_is : environment_of (seen of_a_sink no_result.unit no_result.site above_no_result is_named) 50 1 ≡ of_no_result

pub computed : AreComputed
unfolding put sorted chain_by is_accessible is_in_reach is_offered offered spells shortest class_spelling with_dims spelling type_text is_candidate candidates same_types with_first after_two overrides after_three is_crowded is_written after_four taken_names is_hidden after_five faces_above is_whole is_given is_of_object method_in faces row_of rows_of types_of mentions_void listed place_among number_in weight_of member_decl face_decl decls_of is_variable binder_of environment_of last_named added merged class_named comes_to canonical_by class_by_canonical joined around_by has_flag first_from class_with member_from enclosing spelled imported nested_class below starred of_java_lang named_class simple_class member_class class_of_name primitive primitive_of base_of denoted_type bound_of variable_in variable_of through has reserved is_digit summaries_from supers_of first_super super_of field_of param_of method_of methods_from is_ascii_identifier is_below_at is_ancestor is_one_of place_of use_of is_table is_rising stands is_named seen of_two_methods of_an_override of_two_interfaces of_streams of_a_sink overloads of_overloads overriding of_overriding two_promises of_two_promises readers of_readers hidden_field of_hidden_field no_result of_no_result
computed = record {
  overloads_table = refl;
  overloads_is = refl;
  overriding_table = refl;
  overriding_is = refl;
  two_promises_table = refl;
  two_promises_is = refl;
  readers_table = refl;
  readers_is = refl;
  hidden_field_table = refl;
  hidden_field_is = refl;
  no_result_table = refl;
  no_result_is = refl;
}
