use Rattle.std.proofs.Common.{[]}
use Rattle.scopes.specs.Rows.{overloads, of_overloads, overriding, of_overriding, two_promises, of_two_promises, readers, of_readers, hidden_field, of_hidden_field, no_result, of_no_result}
use Rattle.worked_holes.specs.Worked.{of_two_methods, of_an_override, of_two_interfaces, of_streams, of_a_sink}
use Rattle.worked_holes.proofs.Seen.{only}
use Rattle.worked_holes.proofs.Computed.{above_overloads, above_overriding, above_two_promises, above_readers, above_hidden_field, above_no_result, computed}
use Rattle.worked_holes.proofs.laws.worked_holes.Goals as goal

pub returns : goal.returns
returns c = record {
  overloads = only of_two_methods overloads.unit overloads.site above_overloads 45 of_overloads computed.overloads_table computed.overloads_is;
  overriding = only of_an_override overriding.unit overriding.site above_overriding 45 of_overriding computed.overriding_table computed.overriding_is;
  two_promises = only of_two_interfaces two_promises.unit two_promises.site above_two_promises 45 of_two_promises computed.two_promises_table computed.two_promises_is;
  readers = only of_streams readers.unit readers.site above_readers 4000 of_readers computed.readers_table computed.readers_is;
  hidden_field = only [] hidden_field.unit hidden_field.site above_hidden_field 30 of_hidden_field computed.hidden_field_table computed.hidden_field_is;
  no_result = only of_a_sink no_result.unit no_result.site above_no_result 50 of_no_result computed.no_result_table computed.no_result_is;
}
