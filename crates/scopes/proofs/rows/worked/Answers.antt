use Rattle.std.proofs.Common.{refl}
use Rattle.offers.specs.Scenes.{put, sorted}
use Rattle.offers.specs.Reach.{chain_by, is_accessible, is_in_reach, is_offered, offered}
use Rattle.offers.specs.Spellings.{spells, shortest, class_spelling, with_dims, spelling, type_text}
use Rattle.offers.specs.Candidates.{is_candidate, candidates}
use Rattle.offers.specs.Omissions.{same_types, with_first, after_two, overrides, after_three, is_crowded, is_written, after_four, taken_names, is_hidden, after_five}
use Rattle.offers.specs.Functional.{faces_above, is_whole, is_given, is_of_object, method_in, faces}
use Rattle.offers.specs.Pairs.{row_of, rows_of}
use Rattle.offers.specs.Types.{types_of, mentions_void}
use Rattle.scopes.specs.Kinds.{listed, place_among, number_in}
use Rattle.scopes.specs.Declarations.{weight_of, member_decl, face_decl, decls_of}
use Rattle.scopes.specs.Binders.{is_variable, binder_of}
use Rattle.scopes.specs.Environments.{environment_of}
use Rattle.scopes.specs.Rows.{overloads, of_overloads, overriding, of_overriding, two_promises, of_two_promises, readers, of_readers, hidden_field, of_hidden_field, no_result, of_no_result}
use Rattle.known_classes.specs.Merging.{last_named, added, merged}
use Rattle.known_classes.specs.Known.{class_named, comes_to, canonical_by, class_by_canonical}
use Rattle.known_classes.specs.Nested.{nested_class}
use Rattle.class_summary.specs.Sources.{joined, around_by}
use Rattle.class_summary.specs.Flags.{has_flag}
use Rattle.class_summary.specs.Names.{first_from, class_with, member_from, enclosing, spelled, imported, below, starred, of_java_lang, named_class, simple_class, member_class, class_of_name, primitive, primitive_of, base_of, denoted_type}
use Rattle.class_summary.specs.Variables.{bound_of, variable_in, variable_of, through}
use Rattle.java_units.specs.Signs.{has, reserved}
use Rattle.java_tokens.specs.Classes.{is_digit}
use Rattle.scopes.proofs.rows.worked.Goals as goal

pub returns : goal.returns
unfolding put sorted chain_by is_accessible is_in_reach is_offered offered spells shortest class_spelling with_dims spelling type_text is_candidate candidates same_types with_first after_two overrides after_three is_crowded is_written after_four taken_names is_hidden after_five faces_above is_whole is_given is_of_object method_in faces row_of rows_of types_of mentions_void listed place_among number_in weight_of member_decl face_decl decls_of is_variable binder_of environment_of overloads of_overloads overriding of_overriding two_promises of_two_promises readers of_readers hidden_field of_hidden_field no_result of_no_result last_named added merged class_named comes_to canonical_by class_by_canonical joined around_by has_flag first_from class_with member_from enclosing spelled imported nested_class below starred of_java_lang named_class simple_class member_class class_of_name primitive primitive_of base_of denoted_type bound_of variable_in variable_of through has reserved is_digit
returns c = record { overloads = refl; overriding = refl; two_promises = refl; readers = refl; hidden_field = refl; no_result = refl }
