-- Every definition by name: `unfolding opened` lets a theorem compute any of them. Assumes nothing.
use Rattle.definition.specs.Basics.{at_record, unless, same, position, every, only, concat, lookup, insert, from}
use Rattle.definition.specs.Ascii.{ascii, digits, decimal, hex_digit, hex}
use Rattle.definition.specs.Bytes.{one, two, many, be2, be4, be8}
use Rattle.definition.specs.Shapes.{shapes, bootstrap_shape, is_wide, with_kids, with_literal, with_byte, read_fields, read_entry, write_fields}
use Rattle.std.specs.Float.Ieee.{add, sub, mul, div, of_bits, to_bits}
use Rattle.definition.specs.Expression.{tag_of, four, eight, bits, openings, joined, second_part, opened_part, expression, read_expression, alike, kind_within}
use Rattle.definition.specs.Value.{negative, negated, magnitude, quotient, integer, operation, rounded, computed, value, one_kind, folded, bits_bytes, constant_in}
use Rattle.definition.specs.Settings.{is_slot, highest_of, since, known}
use Rattle.definition.specs.Texts.{between, leading, trailing, unit, units, units_of, is_text, unit_bytes, text_of, read_text, write_text}
use Rattle.definition.specs.Job.{short_name, reference_form, reference, bodies, as_constant, worked_out, read_body, read_definition, asks, read_request, class_form, name_form, read_build}
use Rattle.definition.specs.Form.{count_of, kind_of, first_broken, one_more_lem, with_broken, one_setting, one_record, counted, whole, may_stand, has_room, texts_held, cites, cites_earlier, comes_out, cites_request, form_definition, form_definitions, form_request, nothing_behind, form_build, form_requests, form}
use Rattle.definition.specs.Numbering.{same_literal, attribute_name, entries, settings, is_bootstrap, constants_of, bootstraps_of, literals, number_of, literal_of, numbered_entry, numbered_definition, numbered}
use Rattle.definition.specs.Definitions.{same_kind_lem, name_target, is_none, tag_at, start_free, last_slot, hold, place_constant, place_bootstrap, with_setting, define_one, define_all, nothing_defined}
use Rattle.definition.specs.Resolving.{place_of, follow, goal_of, same_node, intern, mark_child, child_of, kids_at, visited, leave_node, leaving, entering, step, work, fuel_for, resolve, resolve_all, linked, nothing_resolved}
use Rattle.definition.specs.Places.{records_of, table_records, became, record_of, at_nodes}
use Rattle.definition.specs.Slots.{size, gap_before, gaps_from, start_slots, scan, cut, too_high, is_odd, plain_ends, plain_slot, narrow_slot, wide_slot, slot_for, count_from}
use Rattle.definition.specs.Building.{no_slot, give, allocate, slot_of, origin_of, mark_of, slots_of, write_raw, index_of, take_index, row_index, fill_holes, kids_of, node_number, child_number, child_numbers, finish, with_pending, drain, raw_rows, build_all, attribute_text, name_wanted, name_slot, behind, content_of, text_in, class_name}
use Rattle.definition.specs.Layout.{starters, node_at_lem, end_definitions, answer, answer_all, class_slot_of, layout_of, build_layout, index_nodes, layout}
use Rattle.definition.specs.Run.{shown, entry_bytes, slot_bytes, row_bytes, class_bytes, render, build, lent_of, enough, class_out, fits, run, refusal_of, returned, untouched, cleared_after, overwrite, output_after, memory_after}
use Rattle.definition.specs.Blocks.{weighted, block, block_count, block_at, used_in, right_use, padding, all_zero, right_block, blocks_right, block_data, read_blocks, blocks_for, written_block, write_blocks, blocks_after, line, class_text, mark_text, answer_lines, printed, poolrun_lent, poolrun}
use Rattle.definition.specs.Jvms.{index, of_tag, cp_info, read_slots, below_count, wholly, read_pool, read_bootstraps}

unfoldable pub opened : Unit {0}
unfolding at_record unless same position every only concat lookup insert from ascii digits decimal hex_digit hex one two many be2 be4 be8 shapes bootstrap_shape is_wide with_kids with_literal with_byte read_fields read_entry write_fields add sub mul div of_bits to_bits tag_of four eight bits openings joined second_part opened_part expression read_expression alike kind_within negative negated magnitude quotient integer operation rounded computed value one_kind folded bits_bytes constant_in between leading trailing unit units units_of is_text unit_bytes text_of read_text write_text is_slot highest_of since known short_name reference_form reference bodies as_constant worked_out read_body read_definition asks read_request class_form name_form read_build count_of kind_of first_broken one_more_lem with_broken one_setting one_record counted whole may_stand has_room texts_held cites cites_earlier comes_out cites_request form_definition form_definitions form_request nothing_behind form_build form_requests form same_literal attribute_name entries settings is_bootstrap constants_of bootstraps_of literals number_of literal_of numbered_entry numbered_definition numbered same_kind_lem name_target is_none tag_at start_free last_slot hold place_constant place_bootstrap with_setting define_one define_all nothing_defined place_of follow goal_of same_node intern mark_child child_of kids_at visited leave_node leaving entering step work fuel_for resolve resolve_all linked nothing_resolved records_of table_records became record_of at_nodes size gap_before gaps_from start_slots scan cut too_high is_odd plain_ends plain_slot narrow_slot wide_slot slot_for count_from no_slot give allocate slot_of origin_of mark_of slots_of write_raw index_of take_index row_index fill_holes kids_of node_number child_number child_numbers finish with_pending drain raw_rows build_all attribute_text name_wanted name_slot behind content_of text_in class_name starters node_at_lem end_definitions answer answer_all class_slot_of layout_of build_layout index_nodes layout shown entry_bytes slot_bytes row_bytes class_bytes render build lent_of enough class_out fits run refusal_of returned untouched cleared_after overwrite output_after memory_after weighted block block_count block_at used_in right_use padding all_zero right_block blocks_right block_data read_blocks blocks_for written_block write_blocks blocks_after line class_text mark_text answer_lines printed poolrun_lent poolrun index of_tag cp_info read_slots below_count wholly read_pool read_bootstraps
opened = tt
