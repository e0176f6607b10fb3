-- Document 01's starred cases, P3's edges in the place of its speeds, and what the edits of the definitions need, as a table of what
-- is asked and what is answered, computed by one statement. What is asked of a book goes through the reader, in a whole book; books L
-- and M, which are old books, are rewritten first. Assumes nothing.
use mathlib.Core.Path.{◌≡◌, refl}
use Prim.Native.Nat.{ℕ, ◌+◌, ◌*◌}
use mathlib.Core.Option.{Option, none, some}
use mathlib.Core.List.{List, [], ◌∷◌, ◌++◌, map}
use lib.ListN.{length, get_or, replicate}
use lib.IntN.{ℤ, pos, negsuc}
use lib.Dec.{eqb}
use Rattle.spec.specs.Lists.{Bytes, Verdict, accepted, refused, one, count, up_to, range, each, only, all, any, pick, empty, last_or, same, has, different, sum_to, least_from, first_fault, and_then}
use Rattle.spec.specs.Numbers.{little_endian, number, field, signed, unsigned, digits, decimal, in_digits, aligned, decimal_z, nearest}
use Rattle.spec.specs.Frames.{frame, payload_length, kind_field, payload_of, behind, cut_short, kind_number, is_kind, step_kind, kind_order, find_kind, rank_in, rank, length_fits, step_length_fits}
use Rattle.spec.specs.Book.{no_book, node_kind_at, segment_at, train_at, calls_of, no_call, goal_of, is_exit, denies_border, forces_border, greatest_node_kind, touches, share_node, segment_of, start_node, end_node, join_is, joined, length_in_segments, speed_in_segments}
use Rattle.spec.specs.Runs.{leads_to, linked, is_path, directed, goes_on, extend, paths_of, runs_of, start_place, end_place, contains}
use Rattle.spec.specs.Read.{segment_in, join_in, train_in, call_in, grown, between, head_fits, segment_fits, join_fits, join_repeats, train_fits, reach_fits, place_fits, call_fits, some_has, may_divide, content_faults, add, reading_start, is_head, is_end, unknown_kind, out_of_order, kind_faults, frame_faults, add_found, past_frame, book_faults, refuse_or, frame_read_at, read_frame, read_from, read_as, read_book}
use Rattle.spec.specs.Instance.{place_serves, ends_at_exit, may_leave, train_length, run_at, call_at, compile, run_lists, instance_of, in_window, served_at_departure, is_free, free_nodes_of}
use Rattle.spec.specs.Sections.{neighbours, together_below, together, section_labels, share_section}
use Rattle.spec.specs.Plan.{is_absent, is_gone, runs, if_run, of_run, move_code, move_of, bit, plan_bytes, plan_length, move_at, plan_of, is_bit, is_move, plan_fits, rule1, absent_before, departs, rule2, leaves_rightly, rule3, runs_on, rule4, keeps_calls, served_by, rule5, trains_meet, apart_in, rule6, rule_faults, broken_rule, keeps_rules}
use Rattle.spec.specs.Cap.{allows, counter_for, counter_of, set_count, set_among, within_cap, cap_variables, count_var, count_clause, carry_clause, cap_clauses, cap_values}
use Rattle.spec.specs.Formula.{width, first_var, base, border_var, run_var, gone_var, claim_var, own_variables, variables, clauses_b, clauses_c, clauses_i, clauses_d, followers_e, clause_e, clauses_e, servers_f, claims_g, clauses_g, clauses_h, family_a, family_b, family_c, family_d, family_e, family_f, family_g, family_h, family_i, formula, words_of, dimacs_opening, dimacs_line, dimacs_text}
use Rattle.spec.specs.Assignment.{deny, truth, is_yes, value_of, is_true, holds, satisfies, first_false, assigned, assignment_fits, first_run, chosen, decoded, decode, claims, encode}
use Rattle.spec.specs.Refutation.{step_payload, file_of, literal_count, hint_count, step_in, variable_of, rises_from, literals_fit, hints_fit, make_true, make_false, refuting, is_no, is_open, clause_at, not_false, hinted, go_through, follows_rule, clauses_fit, is_bad, step_faults, step_detail, check_steps, check_file}
use Rattle.spec.specs.Entry.{demand, find_none, read_instance, read_under, formula_written, written_for, write_formula, formula_text, judge_assignment, check_assignment, unpacked_for, unpack_plan, judge_plan, after_plan, encoded_for, check_plan, formula_fits, refuted_for, check_refutation, fewest_fits, fewer_refuted, fewest_for, check_fewest}
use Rattle.spec.specs.Held.{padded}
use Rattle.spec.specs.Page.{shown_run, shown_absent, shown_gone, shown_move, shown_of, marked, cell, cells, page_line, page, page_bytes, page_for, print_graph}
use Rattle.spec.specs.Carriers.{earliest, meets_higher, lower_train, higher_train, first_pair, first_meeting, cleared, carries, carriers, entry, carrier_list, carrier_room, carriers_for, list_carriers}
use Rattle.spec.specs.Upgrade.{times_widened, widened_at, widened, widened_found, frame_widened, widened_from, upgraded, upgrade_book}
use Rattle.spec.specs.Library.{RunAsked, no_train, no_run, shown, Meaning, border, run, gone, claim, counted, no_variable, sizes_of, measure_book, borders_fit, labelled_for, label_sections, run_among, run_asked, ask_run, meanings_in, cap_meanings, meanings, meaning_of, ask_variable}
use Rattle.spec.specs.Programs.{slice_bytes, slice_of, program_lent, unless_long, is_long, accepted_line, refusal_line, printed, print_formula, print_assignment, print_unpacking, print_plan, print_refutation, print_fewest, print_page, print_carriers}

-- An answer: rows of numbers, a text or a clause, or a refusal's number and detail.
pub data Answer : Type 0 where
  rows : List (List ℕ) → Answer
  text : Bytes → Answer
  clause : List ℤ → Answer
  yes-accepted : Answer
  refusal : ℕ → ℕ → Answer

pub record Case : Type 0 where
  pub asked : Answer
  pub answer : Answer

answered : {A : Type 0} → Verdict A → (A → Answer) → Answer
answered (accepted a) f = f a
answered (refused n d) f = refusal n d

-- ---- the books

-- Book L, as the document prints it: an old book; and rewritten
old_l : Bytes
old_l =
    0x05 ∷ 0x00 ∷ 0x01 ∷ 0x00 ∷ 0x64 ∷ 0x00 ∷ 0x0A ∷ 0x00 ∷ 0x01 ∷ 0x01 ∷ 0x00 ∷ 0x02 ∷ 0x00 ∷ 0x00 ∷ 0x01 ∷ 0x00 ∷ 0x02 ∷ 0x00 ∷ 0x00
    ∷ 0x03 ∷ 0x00 ∷ 0x03 ∷ 0x00 ∷ 0x00 ∷ 0x01 ∷ 0x00 ∷ 0x07 ∷ 0x00 ∷ 0x05 ∷ 0x00 ∷ 0x50 ∷ 0x00 ∷ 0x24 ∷ 0x00 ∷ 0x00 ∷ 0x01 ∷ 0x00
    ∷ 0x04 ∷ 0x00 ∷ 0x06 ∷ 0x00 ∷ 0x00 ∷ 0x00 ∷ 0x00 ∷ 0x01 ∷ 0x00 ∷ 0x00 ∷ 0x08 ∷ 0x00 ∷ []

book_l : Bytes
book_l = upgraded old_l

-- L rewritten, byte by byte: T, the departure, first and last have a second byte, and the three lengths go up with them
new_l : Bytes
new_l =
    0x06 ∷ 0x00 ∷ 0x01 ∷ 0x00 ∷ 0x64 ∷ 0x00 ∷ 0x0A ∷ 0x00 ∷ 0x01 ∷ 0x00 ∷ 0x01 ∷ 0x00 ∷ 0x02 ∷ 0x00 ∷ 0x00 ∷ 0x01 ∷ 0x00 ∷ 0x02 ∷ 0x00 ∷ 0x00
    ∷ 0x03 ∷ 0x00 ∷ 0x03 ∷ 0x00 ∷ 0x00 ∷ 0x01 ∷ 0x00 ∷ 0x08 ∷ 0x00 ∷ 0x05 ∷ 0x00 ∷ 0x50 ∷ 0x00 ∷ 0x24 ∷ 0x00 ∷ 0x00 ∷ 0x00 ∷ 0x01 ∷ 0x00
    ∷ 0x06 ∷ 0x00 ∷ 0x06 ∷ 0x00 ∷ 0x00 ∷ 0x00 ∷ 0x00 ∷ 0x00 ∷ 0x01 ∷ 0x00 ∷ 0x00 ∷ 0x00 ∷ 0x08 ∷ 0x00 ∷ []

-- a time
time : ℕ → Bytes
time = little_endian 2

-- the Head of an old book, with rs 100, rt 10
old_head : ℕ → Bytes
old_head T = frame 1 (100 ∷ 0 ∷ 10 ∷ 0 ∷ T ∷ [])

-- rs 100, rt 10
head_with : ℕ → Bytes
head_with T = frame 1 (100 ∷ 0 ∷ 10 ∷ 0 ∷ time T)

head_frame : Bytes
head_frame = head_with 1

node_frame : ℕ → Bytes
node_frame kind = frame 2 (kind ∷ [])

segment_frame : ℕ → ℕ → Bytes
segment_frame a b = frame 3 (a ∷ b ∷ 0 ∷ [])

train_from : ℕ → ℕ → ℕ → List ℕ → Bytes
train_from departure metres speed place =
    frame 5 (little_endian 2 metres ++ little_endian 2 speed ++ time departure ++ one (length place) ++ place)

-- a train that departs in interval 0
train_frame : ℕ → ℕ → List ℕ → Bytes
train_frame = train_from 0

call_of : ℕ → ℕ → ℕ → ℕ → Bytes
call_of train segment first last = frame 6 (train ∷ segment ∷ (time first ++ time last))

-- a call of train 0
call_frame : ℕ → ℕ → ℕ → Bytes
call_frame = call_of 0

end_frame : Bytes
end_frame = frame 8 []

-- Segments 0 (nodes 0, 1) and 1 (nodes 1, 2), with or without a join at node 1, and one train
pair_book : Bytes → ℕ → ℕ → List ℕ → Bytes
pair_book joins metres speed place =
    head_frame ++ node_frame 0 ++ node_frame 0 ++ node_frame 0 ++ segment_frame 0 1 ++ segment_frame 1 2 ++ joins
    ++ train_frame metres speed place ++ call_frame 0 0 1 ++ end_frame

join_frame : Bytes
join_frame = frame 4 (1 ∷ 0 ∷ 1 ∷ [])

-- Book M: L with a third node of kind 0, the unjoined segment 1 in TTD 0 and the call on segment 1, as an old book; and rewritten
old_m : ℕ → Bytes
old_m last =
    old_head 1 ++ node_frame 0 ++ node_frame 0 ++ node_frame 0 ++ segment_frame 0 1 ++ segment_frame 1 2
    ++ frame 5 (80 ∷ 0 ∷ 36 ∷ 0 ∷ 0 ∷ 1 ∷ 0 ∷ []) ++ frame 6 (0 ∷ 1 ∷ 0 ∷ last ∷ []) ++ end_frame

book_m : ℕ → Bytes
book_m last = upgraded (old_m last)

-- The old book of one train on one segment, with rs 100 and rt 10, at this speed
old_at : ℕ → Bytes
old_at speed =
    old_head 1 ++ node_frame 0 ++ node_frame 0 ++ segment_frame 0 1
    ++ frame 5 (little_endian 2 100 ++ little_endian 2 speed ++ (0 ∷ 1 ∷ 0 ∷ [])) ++ frame 6 (0 ∷ 0 ∷ 0 ∷ 1 ∷ []) ++ end_frame

-- An old book whose four times are T 5, departure 2, first 3 and last 4, with TTD 0 unbreakable twice
old_twice : Bytes
old_twice =
    old_head 5 ++ node_frame 0 ++ node_frame 0 ++ segment_frame 0 1 ++ frame 5 (80 ∷ 0 ∷ 36 ∷ 0 ∷ 2 ∷ 1 ∷ 0 ∷ [])
    ++ frame 6 (0 ∷ 0 ∷ 3 ∷ 4 ∷ []) ++ frame 7 (0 ∷ []) ++ frame 7 (0 ∷ []) ++ end_frame

-- One train on one segment, with T 256
long_book : ℕ → ℕ → ℕ → Bytes
long_book departure first last =
    head_with 256 ++ node_frame 0 ++ node_frame 0 ++ segment_frame 0 1 ++ train_from departure 80 36 (0 ∷ []) ++ call_frame 0 first last ++ end_frame

-- Three segments in a row, or in a ring over the same nodes, all in TTD 0
triple_book : ℕ → Bytes
triple_book last_node =
    head_frame ++ node_frame 1 ++ node_frame 1 ++ node_frame 1 ++ node_frame 1
    ++ segment_frame 0 1 ++ segment_frame 1 2 ++ segment_frame 2 last_node
    ++ train_frame 80 36 (0 ∷ []) ++ call_frame 0 0 1 ++ end_frame

-- Two trains that must pass over two joined segments of one TTD, with three intervals: train 1 stands on segment 1 and leaves over
-- the exit at node 2, train 0 departs in interval 1 from segment 0 and calls on segment 1, in N at time 1 or 2.
passing_book : ℕ → ℕ → Bytes
passing_book first last =
    head_with 3 ++ node_frame 0 ++ node_frame 1 ++ node_frame 3 ++ segment_frame 0 1 ++ segment_frame 1 2 ++ join_frame
    ++ train_from 1 80 36 (0 ∷ []) ++ train_frame 80 36 (2 ∷ []) ++ call_of 0 1 first last ++ call_of 1 1 0 0 ++ end_frame

book_n : Bytes
book_n = passing_book 1 2

-- One train on one segment, with these rs and rt, at this speed
speed_book : ℕ → ℕ → ℕ → Bytes
speed_book rs rt speed =
    frame 1 (little_endian 2 rs ++ little_endian 2 rt ++ time 1) ++ node_frame 0 ++ node_frame 0 ++ segment_frame 0 1
    ++ train_frame rs speed (0 ∷ []) ++ call_frame 0 0 1 ++ end_frame

-- Four segments in a row, and a train of two segments that may move two, since 55 km/h is over one and a half
row_book : List ℕ → ℕ → Bytes
row_book place goal =
    head_frame ++ node_frame 0 ++ node_frame 0 ++ node_frame 0 ++ node_frame 0 ++ node_frame 0
    ++ segment_frame 0 1 ++ segment_frame 1 2 ++ segment_frame 2 3 ++ segment_frame 3 4
    ++ frame 4 (1 ∷ 0 ∷ 1 ∷ []) ++ frame 4 (2 ∷ 1 ∷ 2 ∷ []) ++ frame 4 (3 ∷ 2 ∷ 3 ∷ [])
    ++ train_frame 180 55 place ++ call_frame goal 0 1 ++ end_frame

-- Two trains that face each other over the same two segments, each with its call where the other stands
facing_book : Bytes
facing_book =
    head_frame ++ node_frame 0 ++ node_frame 1 ++ node_frame 0 ++ segment_frame 0 1 ++ segment_frame 1 2 ++ join_frame
    ++ train_frame 80 36 (0 ∷ []) ++ train_frame 80 36 (3 ∷ []) ++ call_of 0 1 0 1 ++ call_of 1 0 0 1 ++ end_frame

-- Two joined segments, the three nodes of these kinds, two intervals, and a train as long as its place, with its goal
leaving_book : ℕ → List ℕ → List ℕ → ℕ → Bytes
leaving_book departure kinds place goal =
    head_with 2 ++ each kinds node_frame ++ segment_frame 0 1 ++ segment_frame 1 2 ++ join_frame
    ++ train_from departure (100 * length place) 36 place ++ call_frame goal 0 2 ++ end_frame

-- With a train of one segment that departs in interval 0 from segment 0, its goal
platform : List ℕ → Bytes
platform kinds = leaving_book 0 kinds (0 ∷ []) 0

-- The same as an old book
old_platform : List ℕ → Bytes
old_platform kinds =
    old_head 2 ++ each kinds node_frame ++ segment_frame 0 1 ++ segment_frame 1 2 ++ join_frame
    ++ frame 5 (100 ∷ 0 ∷ 36 ∷ 0 ∷ 0 ∷ 1 ∷ 0 ∷ []) ++ frame 6 (0 ∷ 0 ∷ 0 ∷ 2 ∷ []) ++ end_frame

-- Two trains back to back, each on its segment with an exit ahead, and these calls
parting_book : Bytes → Bytes
parting_book calls =
    head_with 2 ++ node_frame 3 ++ node_frame 1 ++ node_frame 3 ++ segment_frame 0 1 ++ segment_frame 1 2 ++ join_frame
    ++ train_frame 80 36 (1 ∷ []) ++ train_frame 80 36 (2 ∷ []) ++ calls ++ end_frame

-- The platform with an exit in mid line, and the goal behind two calls elsewhere
third_book : Bytes
third_book =
    head_with 2 ++ node_frame 0 ++ node_frame 3 ++ node_frame 0 ++ segment_frame 0 1 ++ segment_frame 1 2 ++ join_frame
    ++ train_frame 80 36 (0 ∷ []) ++ call_frame 1 0 2 ++ call_frame 1 0 2 ++ call_frame 0 0 2 ++ end_frame

-- One train with two calls, on segment 0 and, its goal, on segment 1; between them an exit
calling_book : Bytes
calling_book =
    head_with 2 ++ node_frame 0 ++ node_frame 3 ++ node_frame 0 ++ segment_frame 0 1 ++ segment_frame 1 2 ++ join_frame
    ++ train_frame 80 36 (0 ∷ []) ++ call_frame 0 0 2 ++ call_frame 1 0 2 ++ end_frame

-- Segments of two TTDs at node 1; node 0 is of kind 2
divided_book : Bytes
divided_book =
    head_frame ++ node_frame 2 ++ node_frame 1 ++ node_frame 0 ++ segment_frame 0 1 ++ frame 3 (1 ∷ 2 ∷ 1 ∷ [])
    ++ train_frame 80 36 (0 ∷ []) ++ call_frame 0 0 1 ++ end_frame

-- Two segments of TTD 0 at node 1, whose kind is asked for, and TTD 0 unbreakable
unbreakable_book : ℕ → Bytes
unbreakable_book kind =
    head_frame ++ node_frame 0 ++ node_frame kind ++ node_frame 0 ++ segment_frame 0 1 ++ segment_frame 1 2
    ++ train_frame 80 36 (0 ∷ []) ++ call_frame 0 0 1 ++ frame 7 (0 ∷ []) ++ end_frame

-- One interval, nodes of these kinds, unjoined segments, and trains
standing_book : List ℕ → Bytes → Bytes → Bytes
standing_book kinds segments trains = head_frame ++ each kinds node_frame ++ segments ++ trains ++ end_frame

-- so many segments in a row
in_row : ℕ → Bytes
in_row n = each (up_to n) λ s. segment_frame s (s + 1)

-- four in a ring; three that share node 1; two pairs that share it, each pair in a TTD of its own
ring_of_four : Bytes
ring_of_four = in_row 3 ++ segment_frame 3 0

fork : Bytes
fork = in_row 2 ++ segment_frame 1 3

crossing : Bytes
crossing = in_row 2 ++ frame 3 (3 ∷ 1 ∷ 1 ∷ []) ++ frame 3 (1 ∷ 4 ∷ 1 ∷ [])

-- trains that stand on these segments, each with its call there
stands : List ℕ → Bytes
stands on = each on (λ s. train_frame 80 36 (one (2 * s))) ++ each (up_to (length on)) (λ i. call_of i (get_or on i 0) 0 1)

-- One train on one segment, and beside it nodes of kind 1, 2, 1 and 1, which no segment touches
capped_book : Bytes
capped_book = standing_book (0 ∷ 0 ∷ 1 ∷ 2 ∷ 1 ∷ 1 ∷ []) (in_row 1) (stands (0 ∷ []))

-- Two trains on segments of one TTD, which the node of kind 1 between them must divide
needed_book : Bytes
needed_book = standing_book (0 ∷ 1 ∷ 0 ∷ []) (in_row 2) (stands (0 ∷ 1 ∷ []))

-- ---- what is asked

-- l and k of the train that was read
reach : Bytes → Answer
reach s = answered (read_book s) λ b. rows ((length_in_segments b (train_at b 0) ∷ speed_in_segments b (train_at b 0) ∷ []) ∷ [])

-- the times that were read: T, the first train's departure, its goal's first and last
times : Bytes → Answer
times s = answered (read_book s) λ b.
    rows ((b.intervals ∷ (train_at b 0).departure ∷ (goal_of b 0).first ∷ (goal_of b 0).last ∷ []) ∷ [])

run_list : Bytes → Answer
run_list s = answered (read_book s) λ b. rows (runs_of b (train_at b 0))

-- the section of each segment, with a border at this node alone
sections : Bytes → ℕ → Answer
sections s n = answered (read_instance s) λ I.
    rows (map (λ t. pick (λ u. together I (eqb n) t u) (up_to I.segments)) (up_to I.segments))

-- three segments, all of them together
one_section : Answer
one_section = rows ((0 ∷ 1 ∷ 2 ∷ []) ∷ (0 ∷ 1 ∷ 2 ∷ []) ∷ (0 ∷ 1 ∷ 2 ∷ []) ∷ [])

clause_number : ℕ → Bytes → Answer
clause_number n s = answered (read_instance s) λ I. clause (clause_at (formula I) n)

-- the refutation of one empty step with these hints
empty_step : List ℕ → Bytes
empty_step hints = file_of (one (record { literals = []; hints = hints }))

refuted : Bytes → Bytes → Answer
refuted s r = answered (check_refutation none s r program_lent) λ _. yes-accepted

-- with so many words lent
refuted_with : ℕ → Bytes → Bytes → Answer
refuted_with n s r = answered (check_refutation none s r (record { words = n; clauses = 99; values = 99; trail = 99 })) λ _. yes-accepted

totals_of : Bytes → ℕ → Answer
totals_of s n = answered (write_formula none s n) λ w. rows ((w.variable_count ∷ w.clause_count ∷ w.word_count ∷ []) ∷ [])

decodes : Bytes → Bytes → ℕ → Answer
decodes s a n = answered (unpack_plan none s a n) text

-- whether an assignment is accepted
assigns : Bytes → Bytes → Answer
assigns s a = answered (check_assignment none s a) λ _. yes-accepted

encodes : Bytes → Bytes → ℕ → Answer
encodes s p n = answered (check_plan none s p n) text

-- whether a plan is accepted
judged : Bytes → Bytes → Answer
judged s p = answered (check_plan none s p 99) λ _. yes-accepted

-- two trains, of which the border at node 1 parts the segments, stand for an interval and are gone
both_go : Bytes
both_go = 0 ∷ 1 ∷ 0 ∷ 1 ∷ 0 ∷ 255 ∷ 255 ∷ 2 ∷ 0 ∷ 255 ∷ 255 ∷ []

-- the plan of a train that stands for an interval, by its run 0, and is gone; and as an assignment of one that has six runs
stands_and_goes : Bytes
stands_and_goes = 0 ∷ 0 ∷ 0 ∷ 0 ∷ 0 ∷ 255 ∷ 255 ∷ []

gone_assigned : Bytes
gone_assigned = 0 ∷ 0 ∷ 0 ∷ 1 ∷ 0 ∷ 0 ∷ 0 ∷ 0 ∷ 0 ∷ 0 ∷ 1 ∷ 1 ∷ 0 ∷ 0 ∷ 0 ∷ 0 ∷ 0 ∷ 0 ∷ 1 ∷ 0 ∷ 0 ∷ []

-- the assignment of book L in which its train stands by run 0
stands_in_l : Bytes
stands_in_l = 0 ∷ 0 ∷ 1 ∷ 0 ∷ 0 ∷ 1 ∷ []

-- under a cap: the totals; a clause; whether an assignment is accepted; the assignment of a plan; whether a refutation is accepted
totals_under : ℕ → Bytes → Answer
totals_under cap s = answered (write_formula (some cap) s 99) λ w. rows ((w.variable_count ∷ w.clause_count ∷ w.word_count ∷ []) ∷ [])

clause_under : ℕ → ℕ → Bytes → Answer
clause_under cap n s = answered (read_under (some cap) s) λ I. clause (clause_at (formula I) n)

assigns_under : ℕ → Bytes → Bytes → Answer
assigns_under cap s a = answered (check_assignment (some cap) s a) λ _. yes-accepted

encodes_under : ℕ → Bytes → Bytes → ℕ → Answer
encodes_under cap s p n = answered (check_plan (some cap) s p n) text

refuted_under : ℕ → Bytes → Bytes → Answer
refuted_under cap s r = answered (check_refutation (some cap) s r program_lent) λ _. yes-accepted

-- in the capped book: the plan and the assignment without a cap of the train that stands, with these borders at the nodes of kind 1
capped_plan : ℕ → ℕ → ℕ → Bytes
capped_plan x y z = 0 ∷ 0 ∷ x ∷ 1 ∷ y ∷ z ∷ 0 ∷ 0 ∷ []

capped_values : ℕ → ℕ → ℕ → Bytes
capped_values x y z = 0 ∷ 0 ∷ x ∷ 1 ∷ y ∷ z ∷ 1 ∷ 0 ∷ 0 ∷ 1 ∷ []

-- in the other one: the assignment of the trains that stand, with this border; the refutation under cap 0, whose one clause is 47
needed_values : ℕ → Bytes
needed_values x = 0 ∷ x ∷ 0 ∷ 1 ∷ 0 ∷ 0 ∷ 0 ∷ 0 ∷ 1 ∷ 0 ∷ 0 ∷ 0 ∷ 1 ∷ 0 ∷ 0 ∷ 0 ∷ 1 ∷ []

needed_refuted : Bytes
needed_refuted = empty_step (25 ∷ 26 ∷ 27 ∷ 28 ∷ 3 ∷ 33 ∷ 47 ∷ 41 ∷ 29 ∷ 30 ∷ 31 ∷ 32 ∷ 14 ∷ 39 ∷ 46 ∷ [])

-- the combined verdict, with what a program lends,
fewest : Bytes → ℕ → Bytes → Bytes → Answer
fewest s n a r = answered (check_fewest s n a r program_lent) λ _. yes-accepted

-- and with so many words and clauses, and so much for the variables, lent
fewest_lent : ℕ → ℕ → ℕ → ℕ → Bytes → ℕ → Bytes → Bytes → Answer
fewest_lent w c v t s n a r = answered (check_fewest s n a r (record { words = w; clauses = c; values = v; trail = t })) λ _. yes-accepted

draws : Bytes → Bytes → ℕ → Answer
draws s p n = answered (print_graph s p n) text

-- a line of a page: what stands in it, and so many blanks
line_of : Bytes → ℕ → Bytes
line_of s n = s ++ (replicate n 32 ++ (10 ∷ []))

-- the plan of trains that stand on these segments, with these borders; a run of an unjoined segment has its directed number
stay : List ℕ → List ℕ → Bytes
stay borders on = borders ++ each on λ s. little_endian 2 (2 * s)

lists : Bytes → Bytes → ℕ → Answer
lists s p n = answered (list_carriers s p n) text

-- node kinds, segments, borders, where the trains stand, and how much is lent
standing : List ℕ → Bytes → List ℕ → List ℕ → ℕ → Answer
standing kinds segments borders on n = lists (standing_book kinds segments (stands on)) (stay borders on) n

rewrites : Bytes → ℕ → Answer
rewrites s n = answered (upgrade_book s n) text

-- what the library is asked beside the entry points
sizes_over : Option ℕ → Bytes → Answer
sizes_over cap s = answered (measure_book cap s) λ z.
    rows ((z.intervals ∷ z.nodes ∷ z.free_nodes ∷ z.segments ∷ z.trains ∷ z.variable_count ∷ z.clause_count ∷ z.word_count ∷ z.plan_bytes ∷ []) ∷ [])

sizes : Bytes → Answer
sizes = sizes_over none

sizes_under : ℕ → Bytes → Answer
sizes_under cap = sizes_over (some cap)

labels : Bytes → Bytes → ℕ → Answer
labels s borders n = answered (label_sections s borders n) text

-- no train; no run, and how many there are; how many there are, l and the path
run_shown : RunAsked → List (List ℕ)
run_shown no_train = []
run_shown (no_run n) = (n ∷ []) ∷ []
run_shown (shown n l ds) = (n ∷ l ∷ []) ∷ ds ∷ []

run_number : Bytes → ℕ → ℕ → Answer
run_number s i r = answered (ask_run s i r) λ x. rows (run_shown x)

-- by letters: a node's border, a run, gone, a claim, a count
meant : Meaning → List (List ℕ)
meant (border n) = (98 ∷ n ∷ []) ∷ []
meant (run i t r) = (114 ∷ i ∷ t ∷ r ∷ []) ∷ []
meant (gone i t) = (103 ∷ i ∷ t ∷ []) ∷ []
meant (claim i t s) = (99 ∷ i ∷ t ∷ s ∷ []) ∷ []
meant (counted n j) = (107 ∷ n ∷ j ∷ []) ∷ []
meant no_variable = []

variable_number : Bytes → ℕ → Answer
variable_number s v = answered (ask_variable none s v) λ m. rows (meant m)

variable_under : ℕ → Bytes → ℕ → Answer
variable_under cap s v = answered (ask_variable (some cap) s v) λ m. rows (meant m)

-- ---- the table

pub starred : List Case
starred =
    -- P3's edges, in the place of document 01's: 18 km/h is refused by 7; 19 gives 1; 54 gives 1; 55 gives 2; 306 gives 8; 307 is refused
    record { asked = reach (pair_book join_frame 100 18 (0 ∷ [])); answer = refusal 7 0 }
    ∷ record { asked = reach (pair_book join_frame 100 19 (0 ∷ [])); answer = rows ((1 ∷ 1 ∷ []) ∷ []) }
    ∷ record { asked = reach (pair_book join_frame 100 54 (0 ∷ [])); answer = rows ((1 ∷ 1 ∷ []) ∷ []) }
    ∷ record { asked = reach (pair_book join_frame 100 55 (0 ∷ [])); answer = rows ((1 ∷ 2 ∷ []) ∷ []) }
    ∷ record { asked = reach (pair_book join_frame 100 306 (0 ∷ [])); answer = rows ((1 ∷ 8 ∷ []) ∷ []) }
    ∷ record { asked = reach (pair_book join_frame 100 307 (0 ∷ [])); answer = refusal 7 0 }
    -- *100 m gives 1
    ∷ record { asked = reach (pair_book join_frame 100 36 (0 ∷ [])); answer = rows ((1 ∷ 1 ∷ []) ∷ []) }
    -- *101 m gives 2
    ∷ record { asked = reach (pair_book join_frame 101 36 (0 ∷ 2 ∷ [])); answer = rows ((2 ∷ 1 ∷ []) ∷ []) }
    -- *joined at 1, six runs; *unjoined, four
    ∷ record {
      asked = run_list (pair_book join_frame 100 36 (0 ∷ []));
      answer = rows ((0 ∷ []) ∷ (1 ∷ []) ∷ (2 ∷ []) ∷ (3 ∷ []) ∷ (0 ∷ 2 ∷ []) ∷ (3 ∷ 1 ∷ []) ∷ []);
    }
    ∷ record {
      asked = run_list (pair_book [] 100 36 (0 ∷ []));
      answer = rows ((0 ∷ []) ∷ (1 ∷ []) ∷ (2 ∷ []) ∷ (3 ∷ []) ∷ []);
    }
    -- *Three segments in a row, border at node 1: sections {0} and {1, 2}; *in a ring one border, wherever it is, divides nothing
    ∷ record { asked = sections (triple_book 3) 1; answer = rows ((0 ∷ []) ∷ (1 ∷ 2 ∷ []) ∷ (1 ∷ 2 ∷ []) ∷ []) }
    ∷ record { asked = sections (triple_book 0) 0; answer = one_section }
    ∷ record { asked = sections (triple_book 0) 1; answer = one_section }
    ∷ record { asked = sections (triple_book 0) 2; answer = one_section }
    -- *Book L's text: "p cnf 6 10", "-1 0", "-2 0", "3 4 5 0", "-3 -4 0", "-3 -5 0", "-4 -5 0", "-4 0", "-5 0", "-3 6 0", "-4 6 0"
    ∷ record {
      asked = text (print_formula none book_l);
      answer = text
          (112 ∷ 32 ∷ 99 ∷ 110 ∷ 102 ∷ 32 ∷ 54 ∷ 32 ∷ 49 ∷ 48 ∷ 10
          ∷ 45 ∷ 49 ∷ 32 ∷ 48 ∷ 10
          ∷ 45 ∷ 50 ∷ 32 ∷ 48 ∷ 10
          ∷ 51 ∷ 32 ∷ 52 ∷ 32 ∷ 53 ∷ 32 ∷ 48 ∷ 10
          ∷ 45 ∷ 51 ∷ 32 ∷ 45 ∷ 52 ∷ 32 ∷ 48 ∷ 10
          ∷ 45 ∷ 51 ∷ 32 ∷ 45 ∷ 53 ∷ 32 ∷ 48 ∷ 10
          ∷ 45 ∷ 52 ∷ 32 ∷ 45 ∷ 53 ∷ 32 ∷ 48 ∷ 10
          ∷ 45 ∷ 52 ∷ 32 ∷ 48 ∷ 10
          ∷ 45 ∷ 53 ∷ 32 ∷ 48 ∷ 10
          ∷ 45 ∷ 51 ∷ 32 ∷ 54 ∷ 32 ∷ 48 ∷ 10
          ∷ 45 ∷ 52 ∷ 32 ∷ 54 ∷ 32 ∷ 48 ∷ 10 ∷ []);
    }
    -- *Window 0 to 1: clause 19 is 6 7; the empty step with hints 16, 17, 19 is accepted, *with 19, 16, 17 refused by 20
    ∷ record { asked = clause_number 19 (book_m 1); answer = clause (pos 6 ∷ pos 7 ∷ []) }
    ∷ record { asked = refuted (book_m 1) (empty_step (16 ∷ 17 ∷ 19 ∷ [])); answer = yes-accepted }
    ∷ record { asked = refuted (book_m 1) (empty_step (19 ∷ 16 ∷ 17 ∷ [])); answer = refusal 20 1 }
    -- "Letting a hint with a true literal pass hides a useless step": 16 stands twice
    ∷ record { asked = refuted (book_m 1) (empty_step (16 ∷ 16 ∷ 17 ∷ 19 ∷ [])); answer = refusal 20 1 }
    -- *Window 0 to 0: clause 19 is empty and its lone hint suffices
    ∷ record { asked = clause_number 19 (book_m 0); answer = clause [] }
    ∷ record { asked = refuted (book_m 0) (empty_step (19 ∷ [])); answer = yes-accepted }
    ∷ []

-- Not starred: what the edits of the definitions need to be refused. The answers are those of the reference.
pub further : List Case
further =
    -- L has 27 words, and as many are enough
    record { asked = totals_of book_l 27; answer = rows ((6 ∷ 10 ∷ 27 ∷ []) ∷ []) }
    -- an old book is refused by 4 at its Head, and a new one by the rewriter; old T = 33 is 6, old T = 32 and new T = 256 are good
    -- (10 comes next)
    ∷ record { asked = totals_of old_l 27; answer = refusal 4 0 }
    ∷ record { asked = rewrites new_l 99; answer = refusal 4 0 }
    ∷ record { asked = rewrites (old_head 33) 99; answer = refusal 6 0 }
    ∷ record { asked = rewrites (old_head 32 ++ node_frame 0 ++ end_frame) 99; answer = refusal 10 0 }
    ∷ record { asked = totals_of (head_with 256 ++ node_frame 0 ++ end_frame) 0; answer = refusal 10 0 }
    -- L grows by a byte for T, one for the departure and two for the call's window; 12 asks for all of them
    ∷ record { asked = rewrites old_l 53; answer = text new_l }
    ∷ record { asked = rewrites old_l 52; answer = refusal 12 0 }
    -- every time keeps its number, the lower byte first, and a repeated Unbreakable frame stays
    ∷ record {
      asked = rewrites old_twice 99;
      answer = text
          (6 ∷ 0 ∷ 1 ∷ 0 ∷ 100 ∷ 0 ∷ 10 ∷ 0 ∷ 5 ∷ 0
          ∷ 1 ∷ 0 ∷ 2 ∷ 0 ∷ 0 ∷ 1 ∷ 0 ∷ 2 ∷ 0 ∷ 0 ∷ 3 ∷ 0 ∷ 3 ∷ 0 ∷ 0 ∷ 1 ∷ 0
          ∷ 8 ∷ 0 ∷ 5 ∷ 0 ∷ 80 ∷ 0 ∷ 36 ∷ 0 ∷ 2 ∷ 0 ∷ 1 ∷ 0
          ∷ 6 ∷ 0 ∷ 6 ∷ 0 ∷ 0 ∷ 0 ∷ 3 ∷ 0 ∷ 4 ∷ 0
          ∷ 1 ∷ 0 ∷ 7 ∷ 0 ∷ 0 ∷ 1 ∷ 0 ∷ 7 ∷ 0 ∷ 0 ∷ 0 ∷ 0 ∷ 8 ∷ 0 ∷ []);
    }
    ∷ record { asked = times (upgraded old_twice); answer = rows ((5 ∷ 2 ∷ 3 ∷ 4 ∷ []) ∷ []) }
    -- the rewriter goes by the same speeds: it refuses 18 km/h by 7 and takes 19, takes 306 and refuses 307
    ∷ record { asked = rewrites (old_at 18) 99; answer = refusal 7 0 }
    ∷ record { asked = rewrites (old_at 19) 99; answer = text (speed_book 100 10 19) }
    ∷ record { asked = rewrites (old_at 306) 99; answer = text (speed_book 100 10 306) }
    ∷ record { asked = rewrites (old_at 307) 99; answer = refusal 7 0 }
    -- 4 km/h is just over half of 2 metres in a second, and nothing is rounded on the way; then fields whose product has 33 bits
    ∷ record { asked = reach (speed_book 2 1 4); answer = rows ((1 ∷ 1 ∷ []) ∷ []) }
    ∷ record { asked = reach (speed_book 65535 65535 30); answer = rows ((1 ∷ 8 ∷ []) ∷ []) }
    ∷ record { asked = reach (speed_book 65535 13110 65535); answer = refusal 7 0 }
    -- the nearest, where a half is exact, just over and just under; and the greatest that fields can hold, a half over 1193010062
    ∷ record {
      asked = rows ((nearest 27 18 ∷ nearest 28 18 ∷ nearest 26 18 ∷ nearest (65535 * 65535 * 5) 18 ∷ []) ∷ []);
      answer = rows ((1 ∷ 2 ∷ 1 ∷ 1193010062 ∷ []) ∷ []);
    }
    -- times have two bytes: 255 and 256 are two numbers, and a departure of 256 is not below T
    ∷ record { asked = times (long_book 255 255 256); answer = rows ((256 ∷ 255 ∷ 255 ∷ 256 ∷ []) ∷ []) }
    ∷ record { asked = times (long_book 256 0 0); answer = refusal 6 0 }
    ∷ record { asked = times (long_book 0 256 257); answer = refusal 6 0 }
    -- 16: a run before the departure breaks rule 2, gone away from the goal rule 3
    ∷ record { asked = encodes book_n (0 ∷ 1 ∷ 0 ∷ 0 ∷ 0 ∷ 4 ∷ 0 ∷ 2 ∷ 0 ∷ 2 ∷ 0 ∷ 255 ∷ 255 ∷ 255 ∷ 255 ∷ []) 57; answer = refusal 16 2 }
    ∷ record { asked = encodes book_n (0 ∷ 1 ∷ 0 ∷ 254 ∷ 255 ∷ 0 ∷ 0 ∷ 255 ∷ 255 ∷ 2 ∷ 0 ∷ 255 ∷ 255 ∷ 255 ∷ 255 ∷ []) 57; answer = refusal 16 3 }
    -- P4. A goal reached, then gone: refused without an exit, with one behind the train, and with one where another segment ends; accepted
    -- with one in mid line, at the end of the segment where the train stands; refused there if the goal is elsewhere, or the train has run on
    ∷ record { asked = encodes (platform (0 ∷ 0 ∷ 0 ∷ [])) stands_and_goes 21; answer = refusal 16 3 }
    ∷ record { asked = encodes (platform (3 ∷ 0 ∷ 0 ∷ [])) stands_and_goes 21; answer = refusal 16 3 }
    ∷ record { asked = encodes (platform (0 ∷ 0 ∷ 3 ∷ [])) stands_and_goes 21; answer = refusal 16 3 }
    ∷ record { asked = encodes (platform (0 ∷ 3 ∷ 0 ∷ [])) stands_and_goes 21; answer = text gone_assigned }
    ∷ record { asked = encodes (leaving_book 0 (0 ∷ 3 ∷ 0 ∷ []) (0 ∷ []) 1) stands_and_goes 21; answer = refusal 16 3 }
    ∷ record { asked = judged (platform (0 ∷ 3 ∷ 0 ∷ [])) (0 ∷ 0 ∷ 0 ∷ 4 ∷ 0 ∷ 255 ∷ 255 ∷ []); answer = refusal 16 3 }
    -- over the same exit the other way, from b to a; and after a run to an exit
    ∷ record { asked = judged (leaving_book 0 (0 ∷ 3 ∷ 0 ∷ []) (3 ∷ []) 1) (0 ∷ 0 ∷ 0 ∷ 3 ∷ 0 ∷ 255 ∷ 255 ∷ []); answer = yes-accepted }
    ∷ record { asked = judged (leaving_book 0 (3 ∷ 0 ∷ 0 ∷ []) (3 ∷ []) 0) (0 ∷ 0 ∷ 0 ∷ 5 ∷ 0 ∷ 255 ∷ 255 ∷ []); answer = yes-accepted }
    -- two trains, each with its own goal and exit, whichever call stands last in the file; and a goal behind two other calls
    ∷ record { asked = judged (parting_book (call_of 0 0 0 2 ++ call_of 1 1 0 2)) both_go; answer = yes-accepted }
    ∷ record { asked = judged (parting_book (call_of 1 1 0 2 ++ call_of 0 0 0 2)) both_go; answer = yes-accepted }
    ∷ record { asked = clause_number 53 third_book; answer = clause (negsuc 3 ∷ pos 13 ∷ pos 17 ∷ pos 19 ∷ []) }
    -- a train of two segments: the exit is where its front ends and not where its rear does, the goal under either
    ∷ record {
      asked = encodes (leaving_book 0 (0 ∷ 0 ∷ 3 ∷ []) (0 ∷ 2 ∷ []) 0) stands_and_goes 13;
      answer = text (0 ∷ 0 ∷ 0 ∷ 1 ∷ 0 ∷ 0 ∷ 1 ∷ 1 ∷ 0 ∷ 0 ∷ 1 ∷ 0 ∷ 0 ∷ []);
    }
    ∷ record { asked = judged (leaving_book 0 (0 ∷ 0 ∷ 3 ∷ []) (0 ∷ 2 ∷ []) 1) stands_and_goes; answer = yes-accepted }
    ∷ record { asked = encodes (leaving_book 0 (0 ∷ 3 ∷ 0 ∷ []) (0 ∷ 2 ∷ []) 0) stands_and_goes 13; answer = refusal 16 3 }
    -- T = d + 1: the train has its run of interval d, and cannot be gone in its place
    ∷ record {
      asked = encodes (leaving_book 1 (0 ∷ 3 ∷ 0 ∷ []) (0 ∷ []) 0) (0 ∷ 0 ∷ 0 ∷ 254 ∷ 255 ∷ 0 ∷ 0 ∷ []) 21;
      answer = text (0 ∷ 0 ∷ 0 ∷ 0 ∷ 0 ∷ 0 ∷ 0 ∷ 0 ∷ 0 ∷ 0 ∷ 0 ∷ 0 ∷ 1 ∷ 0 ∷ 0 ∷ 0 ∷ 0 ∷ 0 ∷ 0 ∷ 1 ∷ 1 ∷ []);
    }
    ∷ record { asked = encodes (leaving_book 1 (0 ∷ 3 ∷ 0 ∷ []) (0 ∷ []) 0) (0 ∷ 0 ∷ 0 ∷ 254 ∷ 255 ∷ 255 ∷ 255 ∷ []) 21; answer = refusal 16 2 }
    -- family E has gone where rule 3 has it, and an assignment is judged by it; also of an old book, rewritten
    ∷ record { asked = clause_number 53 (platform (3 ∷ 0 ∷ 0 ∷ [])); answer = clause (negsuc 3 ∷ pos 13 ∷ pos 17 ∷ []) }
    ∷ record { asked = clause_number 53 (platform (0 ∷ 3 ∷ 0 ∷ [])); answer = clause (negsuc 3 ∷ pos 13 ∷ pos 17 ∷ pos 19 ∷ []) }
    ∷ record { asked = decodes (platform (3 ∷ 0 ∷ 0 ∷ [])) gone_assigned 7; answer = refusal 14 53 }
    ∷ record { asked = decodes (platform (0 ∷ 3 ∷ 0 ∷ [])) gone_assigned 7; answer = text stands_and_goes }
    ∷ record { asked = rewrites (old_platform (0 ∷ 3 ∷ 0 ∷ [])) 99; answer = text (platform (0 ∷ 3 ∷ 0 ∷ [])) }
    ∷ record { asked = rewrites (old_platform (0 ∷ 4 ∷ 0 ∷ [])) 99; answer = refusal 6 0 }
    -- an exit has no border: its variable is denied, in node order; a plan that sets it breaks rule 1, and it gives no 9; there is no kind 4
    ∷ record { asked = clause_number 2 (platform (0 ∷ 3 ∷ 0 ∷ [])); answer = clause (one (negsuc 1)) }
    ∷ record { asked = clause_number 1 (platform (3 ∷ 0 ∷ 2 ∷ [])); answer = clause (one (negsuc 0)) }
    ∷ record { asked = clause_number 3 (platform (3 ∷ 0 ∷ 2 ∷ [])); answer = clause (one (pos 3)) }
    ∷ record { asked = encodes (platform (0 ∷ 3 ∷ 0 ∷ [])) (0 ∷ 1 ∷ 0 ∷ 0 ∷ 0 ∷ 255 ∷ 255 ∷ []) 21; answer = refusal 16 1 }
    ∷ record { asked = totals_of (unbreakable_book 3) 0; answer = refusal 12 0 }
    ∷ record { asked = totals_of (platform (0 ∷ 4 ∷ 0 ∷ [])) 0; answer = refusal 6 0 }
    -- without a border each train claims the whole section
    ∷ record {
      asked = encodes book_n (0 ∷ 0 ∷ 0 ∷ 254 ∷ 255 ∷ 4 ∷ 0 ∷ 2 ∷ 0 ∷ 2 ∷ 0 ∷ 255 ∷ 255 ∷ 255 ∷ 255 ∷ []) 57;
      answer = text
          (0 ∷ 0 ∷ 0
          ∷ 0 ∷ 0 ∷ 0 ∷ 0 ∷ 0 ∷ 0 ∷ 0 ∷ 0 ∷ 0
          ∷ 0 ∷ 0 ∷ 0 ∷ 0 ∷ 1 ∷ 0 ∷ 0 ∷ 1 ∷ 1
          ∷ 0 ∷ 0 ∷ 1 ∷ 0 ∷ 0 ∷ 0 ∷ 0 ∷ 1 ∷ 1
          ∷ 0 ∷ 0 ∷ 1 ∷ 0 ∷ 0 ∷ 0 ∷ 0 ∷ 1 ∷ 1
          ∷ 0 ∷ 0 ∷ 0 ∷ 0 ∷ 0 ∷ 0 ∷ 1 ∷ 0 ∷ 0
          ∷ 0 ∷ 0 ∷ 0 ∷ 0 ∷ 0 ∷ 0 ∷ 1 ∷ 0 ∷ 0 ∷ []);
    }
    -- the page of a plan: absent, a run that moves one, a train that stands, gone; then 12, 15 and 16
    ∷ record {
      asked = draws book_n (0 ∷ 0 ∷ 0 ∷ 254 ∷ 255 ∷ 4 ∷ 0 ∷ 2 ∷ 0 ∷ 2 ∷ 0 ∷ 255 ∷ 255 ∷ 255 ∷ 255 ∷ []) 243;
      answer = text
          (line_of (32 ∷ 32 ∷ 48 ∷ 32 ∷ 32 ∷ 46 ∷ 32 ∷ 32 ∷ 32 ∷ 32 ∷ 32 ∷ 32 ∷ 32 ∷ 32 ∷ 48 ∷ 49 ∷ 45 ∷ 48 ∷ 49 ∷ 32 ∷ 48 ∷ 32 ∷ []) 58
          ++ line_of (32 ∷ 32 ∷ 49 ∷ 32 ∷ 32 ∷ 48 ∷ 48 ∷ 45 ∷ 48 ∷ 49 ∷ 32 ∷ 49 ∷ 32 ∷ 32 ∷ 42 ∷ 32 ∷ 32 ∷ 32 ∷ 32 ∷ 32 ∷ 32 ∷ 32 ∷ []) 58
          ++ line_of (32 ∷ 32 ∷ 50 ∷ 32 ∷ 32 ∷ 48 ∷ 49 ∷ 45 ∷ 48 ∷ 49 ∷ 32 ∷ 48 ∷ 32 ∷ 32 ∷ 42 ∷ 32 ∷ 32 ∷ 32 ∷ 32 ∷ 32 ∷ 32 ∷ 32 ∷ []) 58);
    }
    ∷ record { asked = draws book_n (0 ∷ 0 ∷ 0 ∷ 254 ∷ 255 ∷ 4 ∷ 0 ∷ 2 ∷ 0 ∷ 2 ∷ 0 ∷ 255 ∷ 255 ∷ 255 ∷ 255 ∷ []) 242; answer = refusal 12 0 }
    ∷ record { asked = draws book_n [] 243; answer = refusal 15 0 }
    ∷ record { asked = draws book_n (0 ∷ 1 ∷ 0 ∷ 0 ∷ 0 ∷ 4 ∷ 0 ∷ 2 ∷ 0 ∷ 2 ∷ 0 ∷ 255 ∷ 255 ∷ 255 ∷ 255 ∷ []) 243; answer = refusal 16 2 }
    -- a train of two segments that moves two, there and back: rear at the start, front at the end
    ∷ record {
      asked = draws (row_book (0 ∷ 2 ∷ []) 3) (0 ∷ 0 ∷ 0 ∷ 0 ∷ 0 ∷ 10 ∷ 0 ∷ []) 81;
      answer = text (line_of (32 ∷ 32 ∷ 48 ∷ 32 ∷ 32 ∷ 48 ∷ 48 ∷ 45 ∷ 48 ∷ 51 ∷ 32 ∷ 50 ∷ 32 ∷ []) 67);
    }
    ∷ record {
      asked = draws (row_book (7 ∷ 5 ∷ []) 0) (0 ∷ 0 ∷ 0 ∷ 0 ∷ 0 ∷ 11 ∷ 0 ∷ []) 81;
      answer = text (line_of (32 ∷ 32 ∷ 48 ∷ 32 ∷ 32 ∷ 48 ∷ 51 ∷ 45 ∷ 48 ∷ 48 ∷ 32 ∷ 50 ∷ 32 ∷ []) 67);
    }
    -- what the command prints: a page, or the line of a refusal
    ∷ record {
      asked = text (print_page (row_book (0 ∷ 2 ∷ []) 3) (0 ∷ 0 ∷ 0 ∷ 0 ∷ 0 ∷ 10 ∷ 0 ∷ []));
      answer = text (line_of (32 ∷ 32 ∷ 48 ∷ 32 ∷ 32 ∷ 48 ∷ 48 ∷ 45 ∷ 48 ∷ 51 ∷ 32 ∷ 50 ∷ 32 ∷ []) 67);
    }
    ∷ record { asked = text (print_page book_n []); answer = text (49 ∷ 53 ∷ 32 ∷ 48 ∷ 10 ∷ []) }
    -- its cells and its intervals: segments 0 and 63, eight moved; 0, 99, 100 and 255
    ∷ record {
      asked = rows (cell (shown_run 0 63 8) ∷ cell (shown_run 63 0 0) ∷ cell shown_absent ∷ cell shown_gone ∷ []);
      answer = rows
          ((32 ∷ 48 ∷ 48 ∷ 45 ∷ 54 ∷ 51 ∷ 32 ∷ 56 ∷ 32 ∷ []) ∷ (32 ∷ 54 ∷ 51 ∷ 45 ∷ 48 ∷ 48 ∷ 32 ∷ 48 ∷ 32 ∷ [])
          ∷ (32 ∷ 46 ∷ 32 ∷ 32 ∷ 32 ∷ 32 ∷ 32 ∷ 32 ∷ 32 ∷ []) ∷ (32 ∷ 42 ∷ 32 ∷ 32 ∷ 32 ∷ 32 ∷ 32 ∷ 32 ∷ 32 ∷ []) ∷ []);
    }
    ∷ record {
      asked = rows (aligned 3 0 ∷ aligned 3 99 ∷ aligned 3 100 ∷ aligned 3 255 ∷ []);
      answer = rows ((32 ∷ 32 ∷ 48 ∷ []) ∷ (32 ∷ 57 ∷ 57 ∷ []) ∷ (49 ∷ 48 ∷ 48 ∷ []) ∷ (50 ∷ 53 ∷ 53 ∷ []) ∷ []);
    }
    -- P5: two trains beside a border that parts them; 12 by an entry a kind 1 node, then 15 and 16
    ∷ record { asked = standing (0 ∷ 1 ∷ 0 ∷ []) (in_row 2) (0 ∷ 1 ∷ 0 ∷ []) (0 ∷ 1 ∷ []) 4; answer = text (1 ∷ 0 ∷ 0 ∷ 1 ∷ []) }
    ∷ record { asked = standing (0 ∷ 1 ∷ 0 ∷ []) (in_row 2) (0 ∷ 1 ∷ 0 ∷ []) (0 ∷ 1 ∷ []) 3; answer = refusal 12 0 }
    ∷ record { asked = lists (standing_book (0 ∷ 1 ∷ 0 ∷ []) (in_row 2) (stands (0 ∷ 1 ∷ []))) [] 3; answer = refusal 12 0 }
    ∷ record { asked = lists (standing_book (0 ∷ 1 ∷ 0 ∷ []) (in_row 2) (stands (0 ∷ 1 ∷ []))) [] 4; answer = refusal 15 0 }
    ∷ record { asked = standing (0 ∷ 1 ∷ 0 ∷ []) (in_row 2) (0 ∷ 0 ∷ 0 ∷ []) (0 ∷ 1 ∷ []) 4; answer = refusal 16 6 }
    -- a border of kind 2 is never listed, and has no entry
    ∷ record { asked = standing (0 ∷ 2 ∷ 0 ∷ []) (in_row 2) (0 ∷ 1 ∷ 0 ∷ []) (0 ∷ 1 ∷ []) 0; answer = text [] }
    -- set borders that part nothing, beside one that does
    ∷ record { asked = standing (1 ∷ 1 ∷ 1 ∷ 1 ∷ []) (in_row 3) (1 ∷ 1 ∷ 1 ∷ 0 ∷ []) (0 ∷ 1 ∷ []) 16; answer = text (1 ∷ 0 ∷ 0 ∷ 1 ∷ []) }
    -- two that carry only together: either may go, and room is asked for both
    ∷ record { asked = standing (0 ∷ 1 ∷ 1 ∷ 0 ∷ []) (in_row 3) (0 ∷ 1 ∷ 1 ∷ 0 ∷ []) (0 ∷ 2 ∷ []) 8; answer = text [] }
    ∷ record { asked = standing (0 ∷ 1 ∷ 1 ∷ 0 ∷ []) (in_row 3) (0 ∷ 1 ∷ 1 ∷ 0 ∷ []) (0 ∷ 2 ∷ []) 7; answer = refusal 12 0 }
    ∷ record { asked = standing (0 ∷ 1 ∷ 1 ∷ 0 ∷ []) (in_row 3) (0 ∷ 0 ∷ 1 ∷ 0 ∷ []) (0 ∷ 2 ∷ []) 8; answer = text (2 ∷ 0 ∷ 0 ∷ 1 ∷ []) }
    -- a ring of four: each border has the next to help it; with two, both carry
    ∷ record { asked = standing (1 ∷ 1 ∷ 1 ∷ 1 ∷ []) ring_of_four (1 ∷ 1 ∷ 1 ∷ 1 ∷ []) (0 ∷ 2 ∷ []) 16; answer = text [] }
    ∷ record { asked = standing (1 ∷ 1 ∷ 1 ∷ 1 ∷ []) ring_of_four (1 ∷ 0 ∷ 1 ∷ 0 ∷ []) (0 ∷ 2 ∷ []) 16; answer = text (0 ∷ 0 ∷ 0 ∷ 1 ∷ 2 ∷ 0 ∷ 0 ∷ 1 ∷ []) }
    -- three trains about a node, all of which meet
    ∷ record { asked = standing (0 ∷ 1 ∷ 0 ∷ 0 ∷ []) fork (0 ∷ 1 ∷ 0 ∷ 0 ∷ []) (2 ∷ 0 ∷ 1 ∷ []) 4; answer = text (1 ∷ 0 ∷ 0 ∷ 1 ∷ []) }
    -- two TTDs about a node: trains 0 and 3 meet in one, 1 and 2 in the other; the lower train counts first
    ∷ record { asked = standing (0 ∷ 1 ∷ 0 ∷ 0 ∷ 0 ∷ []) crossing (0 ∷ 1 ∷ 0 ∷ 0 ∷ 0 ∷ []) (2 ∷ 0 ∷ 1 ∷ 3 ∷ []) 4; answer = text (1 ∷ 0 ∷ 0 ∷ 3 ∷ []) }
    -- a train that meets nobody comes first
    ∷ record { asked = standing (0 ∷ 1 ∷ 0 ∷ 0 ∷ 0 ∷ []) crossing (0 ∷ 1 ∷ 0 ∷ 0 ∷ 0 ∷ []) (2 ∷ 0 ∷ 1 ∷ []) 4; answer = text (1 ∷ 0 ∷ 1 ∷ 2 ∷ []) }
    -- the earliest interval of two in which they meet
    ∷ record {
      asked = lists
          (head_with 3 ++ node_frame 0 ++ node_frame 1 ++ node_frame 0 ++ in_row 2 ++ train_frame 80 36 (0 ∷ []) ++ train_from 1 80 36 (2 ∷ [])
          ++ call_of 0 0 0 3 ++ call_of 1 1 0 3 ++ end_frame)
          (0 ∷ 1 ∷ 0 ∷ 0 ∷ 0 ∷ 0 ∷ 0 ∷ 0 ∷ 0 ∷ 254 ∷ 255 ∷ 2 ∷ 0 ∷ 2 ∷ 0 ∷ []) 4;
      answer = text (1 ∷ 1 ∷ 0 ∷ 1 ∷ []);
    }
    -- a train that moves up to a border: from the interval in which it reaches it, and the border behind it carries nothing
    ∷ record {
      asked = lists
          (head_with 3 ++ node_frame 0 ++ node_frame 1 ++ node_frame 1 ++ node_frame 0 ++ in_row 3 ++ join_frame
          ++ train_frame 80 36 (4 ∷ []) ++ train_frame 80 36 (0 ∷ []) ++ call_of 0 2 0 3 ++ call_of 1 1 0 3 ++ end_frame)
          (0 ∷ 1 ∷ 1 ∷ 0 ∷ 4 ∷ 0 ∷ 4 ∷ 0 ∷ 4 ∷ 0 ∷ 0 ∷ 0 ∷ 6 ∷ 0 ∷ 2 ∷ 0 ∷ []) 8;
      answer = text (2 ∷ 1 ∷ 0 ∷ 1 ∷ []);
    }
    -- four entries, in a ring of nodes 5 to 8 with a train on each segment, all of which depart in interval 5
    ∷ record {
      asked = lists
          (head_with 6 ++ each (replicate 5 0 ++ replicate 4 1) node_frame ++ each (5 ∷ 6 ∷ 7 ∷ []) (λ n. segment_frame n (n + 1)) ++ segment_frame 8 5
          ++ each (up_to 4) (λ s. train_from 5 80 36 (one (2 * s))) ++ each (up_to 4) (λ s. call_of s s 5 6) ++ end_frame)
          (replicate 5 0 ++ replicate 4 1 ++ each (up_to 4) λ s. each (replicate 5 65534 ++ one (2 * s)) (little_endian 2)) 16;
      answer = text (5 ∷ 5 ∷ 0 ∷ 3 ∷ 6 ∷ 5 ∷ 0 ∷ 1 ∷ 7 ∷ 5 ∷ 1 ∷ 2 ∷ 8 ∷ 5 ∷ 2 ∷ 3 ∷ []);
    }
    -- what the command prints
    ∷ record { asked = text (print_carriers (standing_book (0 ∷ 1 ∷ 0 ∷ []) (in_row 2) (stands (0 ∷ 1 ∷ []))) (stay (0 ∷ 1 ∷ 0 ∷ []) (0 ∷ 1 ∷ []))); answer = text accepted_line }
    ∷ record { asked = text (print_carriers (standing_book (0 ∷ 1 ∷ 0 ∷ []) (in_row 2) (stands (0 ∷ 1 ∷ []))) []); answer = text (49 ∷ 53 ∷ 32 ∷ 48 ∷ 10 ∷ []) }
    -- a window from 3 to 3: only the runs of interval 2
    ∷ record { asked = clause_number 152 (passing_book 3 3); answer = clause (pos 24 ∷ pos 25 ∷ pos 26 ∷ []) }
    -- a window that shuts before the departure: no refusal, and a clause that nothing satisfies
    ∷ record { asked = clause_number 152 (passing_book 0 0); answer = clause [] }
    -- two calls of one train: the goal is the last, so that who ends on the first call's segment, at the exit, may not go
    ∷ record { asked = clause_number 53 calling_book; answer = clause (negsuc 3 ∷ pos 13 ∷ pos 17 ∷ []) }
    -- two TTDs at a node are two sections without a border
    ∷ record { asked = sections divided_book 9; answer = rows ((0 ∷ []) ∷ (1 ∷ []) ∷ []) }
    -- a claim of a segment that the train does not touch: an assignment may claim more than its plan's own
    ∷ record {
      asked = decodes divided_book (1 ∷ 0 ∷ 0 ∷ 1 ∷ 0 ∷ 0 ∷ 0 ∷ 0 ∷ 1 ∷ 1 ∷ []) 5;
      answer = text (1 ∷ 0 ∷ 0 ∷ 0 ∷ 0 ∷ []);
    }
    -- judged alone and unpacked: one verdict; then 13 by a byte and by the length, and 14 with the same detail
    ∷ record { asked = assigns book_l stands_in_l; answer = yes-accepted }
    ∷ record { asked = decodes book_l stands_in_l 4; answer = text (0 ∷ 0 ∷ 0 ∷ 0 ∷ []) }
    ∷ record { asked = assigns book_l (2 ∷ 0 ∷ 1 ∷ 0 ∷ 0 ∷ 1 ∷ []); answer = refusal 13 0 }
    ∷ record { asked = decodes book_l (2 ∷ 0 ∷ 1 ∷ 0 ∷ 0 ∷ 1 ∷ []) 4; answer = refusal 13 0 }
    ∷ record { asked = assigns book_l (0 ∷ 0 ∷ 1 ∷ 0 ∷ 0 ∷ []); answer = refusal 13 0 }
    ∷ record { asked = decodes book_l (0 ∷ 0 ∷ 1 ∷ 0 ∷ 0 ∷ []) 4; answer = refusal 13 0 }
    ∷ record { asked = assigns book_l (0 ∷ 0 ∷ 1 ∷ 0 ∷ 0 ∷ 0 ∷ []); answer = refusal 14 9 }
    ∷ record { asked = decodes book_l (0 ∷ 0 ∷ 1 ∷ 0 ∷ 0 ∷ 0 ∷ []) 4; answer = refusal 14 9 }
    ∷ record { asked = assigns (platform (3 ∷ 0 ∷ 0 ∷ [])) gone_assigned; answer = refusal 14 53 }
    -- 12 is the unpacker's alone: behind the book, ahead of 13 and 14
    ∷ record { asked = decodes book_l stands_in_l 3; answer = refusal 12 0 }
    ∷ record { asked = decodes book_l [] 3; answer = refusal 12 0 }
    ∷ record { asked = assigns [] stands_in_l; answer = refusal 1 0 }
    ∷ record { asked = decodes [] stands_in_l 0; answer = refusal 1 0 }
    -- what the command prints, with no third name and with one
    ∷ record { asked = text (print_assignment none book_l stands_in_l); answer = text accepted_line }
    ∷ record { asked = text (print_unpacking none book_l stands_in_l); answer = text accepted_line }
    ∷ record { asked = text (print_assignment none book_l (0 ∷ 0 ∷ 1 ∷ 0 ∷ 0 ∷ 0 ∷ [])); answer = text (49 ∷ 52 ∷ 32 ∷ 57 ∷ 10 ∷ []) }
    ∷ record { asked = text (print_unpacking none book_l (0 ∷ 0 ∷ 1 ∷ 0 ∷ 0 ∷ 0 ∷ [])); answer = text (49 ∷ 52 ∷ 32 ∷ 57 ∷ 10 ∷ []) }
    -- P7, three nodes of kind 1 under cap 1: two variables behind all others, five clauses behind family I
    ∷ record {
      asked = text (print_formula (some 1) capped_book);
      answer = text (
          112 ∷ 32 ∷ 99 ∷ 110 ∷ 102 ∷ 32 ∷ 49 ∷ 50 ∷ 32 ∷ 49 ∷ 54 ∷ 10
          ∷ 45 ∷ 49 ∷ 32 ∷ 48 ∷ 10
          ∷ 45 ∷ 50 ∷ 32 ∷ 48 ∷ 10
          ∷ 52 ∷ 32 ∷ 48 ∷ 10
          ∷ 55 ∷ 32 ∷ 56 ∷ 32 ∷ 57 ∷ 32 ∷ 48 ∷ 10
          ∷ 45 ∷ 55 ∷ 32 ∷ 45 ∷ 56 ∷ 32 ∷ 48 ∷ 10
          ∷ 45 ∷ 55 ∷ 32 ∷ 45 ∷ 57 ∷ 32 ∷ 48 ∷ 10
          ∷ 45 ∷ 56 ∷ 32 ∷ 45 ∷ 57 ∷ 32 ∷ 48 ∷ 10
          ∷ 45 ∷ 56 ∷ 32 ∷ 48 ∷ 10
          ∷ 45 ∷ 57 ∷ 32 ∷ 48 ∷ 10
          ∷ 45 ∷ 55 ∷ 32 ∷ 49 ∷ 48 ∷ 32 ∷ 48 ∷ 10
          ∷ 45 ∷ 56 ∷ 32 ∷ 49 ∷ 48 ∷ 32 ∷ 48 ∷ 10
          ∷ 45 ∷ 51 ∷ 32 ∷ 49 ∷ 49 ∷ 32 ∷ 48 ∷ 10
          ∷ 45 ∷ 53 ∷ 32 ∷ 49 ∷ 50 ∷ 32 ∷ 48 ∷ 10
          ∷ 45 ∷ 49 ∷ 49 ∷ 32 ∷ 49 ∷ 50 ∷ 32 ∷ 48 ∷ 10
          ∷ 45 ∷ 53 ∷ 32 ∷ 45 ∷ 49 ∷ 49 ∷ 32 ∷ 48 ∷ 10
          ∷ 45 ∷ 54 ∷ 32 ∷ 45 ∷ 49 ∷ 50 ∷ 32 ∷ 48 ∷ 10
          ∷ []);
    }
    -- under cap 0 each node is denied; under cap 2 the band is one wide; "A cap not below the count of kind 1 nodes adds nothing"
    ∷ record { asked = totals_under 0 capped_book; answer = rows ((10 ∷ 14 ∷ 35 ∷ []) ∷ []) }
    ∷ record { asked = clause_under 0 13 capped_book; answer = clause (one (negsuc 4)) }
    ∷ record { asked = totals_under 2 capped_book; answer = rows ((12 ∷ 14 ∷ 39 ∷ []) ∷ []) }
    ∷ record { asked = clause_under 2 13 capped_book; answer = clause (negsuc 4 ∷ negsuc 10 ∷ pos 12 ∷ []) }
    ∷ record { asked = totals_under 3 capped_book; answer = rows ((10 ∷ 11 ∷ 29 ∷ []) ∷ []) }
    ∷ record { asked = totals_under 99 capped_book; answer = rows ((10 ∷ 11 ∷ 29 ∷ []) ∷ []) }
    ∷ record { asked = totals_of capped_book 99; answer = rows ((10 ∷ 11 ∷ 29 ∷ []) ∷ []) }
    -- at most one of three, wherever it is; the counter may say more than is set, never less; 13 by the capped length
    ∷ record { asked = assigns_under 1 capped_book (capped_values 1 0 0 ++ (1 ∷ 1 ∷ [])); answer = yes-accepted }
    ∷ record { asked = assigns_under 1 capped_book (capped_values 0 1 0 ++ (0 ∷ 1 ∷ [])); answer = yes-accepted }
    ∷ record { asked = assigns_under 1 capped_book (capped_values 0 0 1 ++ (0 ∷ 0 ∷ [])); answer = yes-accepted }
    ∷ record { asked = assigns_under 1 capped_book (capped_values 0 0 0 ++ (1 ∷ 1 ∷ [])); answer = yes-accepted }
    ∷ record { asked = assigns_under 1 capped_book (capped_values 1 0 0 ++ (0 ∷ 0 ∷ [])); answer = refusal 14 12 }
    ∷ record { asked = assigns_under 1 capped_book (capped_values 1 1 0 ++ (1 ∷ 1 ∷ [])); answer = refusal 14 15 }
    ∷ record { asked = assigns_under 1 capped_book (capped_values 1 0 1 ++ (1 ∷ 1 ∷ [])); answer = refusal 14 16 }
    ∷ record { asked = assigns_under 1 capped_book (capped_values 1 0 0); answer = refusal 13 0 }
    ∷ record { asked = assigns_under 3 capped_book (capped_values 1 1 1); answer = yes-accepted }
    -- a plan within the cap gives the counter its counts; 12 by the capped variables; 22 behind 16, and nothing in between
    ∷ record { asked = encodes_under 1 capped_book (capped_plan 1 0 0) 12; answer = text (capped_values 1 0 0 ++ (1 ∷ 1 ∷ [])) }
    ∷ record { asked = encodes_under 1 capped_book (capped_plan 0 1 0) 12; answer = text (capped_values 0 1 0 ++ (0 ∷ 1 ∷ [])) }
    ∷ record { asked = encodes_under 1 capped_book (capped_plan 0 0 1) 12; answer = text (capped_values 0 0 1 ++ (0 ∷ 0 ∷ [])) }
    ∷ record { asked = encodes_under 2 capped_book (capped_plan 1 1 0) 12; answer = text (capped_values 1 1 0 ++ (1 ∷ 1 ∷ [])) }
    ∷ record { asked = encodes_under 1 capped_book (capped_plan 1 0 0) 11; answer = refusal 12 0 }
    ∷ record { asked = encodes_under 1 capped_book (capped_plan 1 1 0) 12; answer = refusal 22 0 }
    ∷ record { asked = encodes_under 0 capped_book (capped_plan 0 0 1) 12; answer = refusal 22 0 }
    ∷ record { asked = encodes_under 1 capped_book (1 ∷ 0 ∷ 1 ∷ 1 ∷ 1 ∷ 0 ∷ 0 ∷ 0 ∷ []) 12; answer = refusal 16 1 }
    ∷ record { asked = encodes_under 3 capped_book (capped_plan 1 1 1) 10; answer = text (capped_values 1 1 1) }
    -- a refutation under a cap is none without it; one border is the fewest here
    ∷ record { asked = refuted_under 0 needed_book needed_refuted; answer = yes-accepted }
    ∷ record { asked = refuted needed_book needed_refuted; answer = refusal 19 1 }
    ∷ record { asked = fewest needed_book 1 (needed_values 1) needed_refuted; answer = yes-accepted }
    -- n wrong by one either way; 14 before 22; an assignment that sets more than it needs
    ∷ record { asked = fewest needed_book 0 (needed_values 1) needed_refuted; answer = refusal 22 0 }
    ∷ record { asked = fewest needed_book 2 (needed_values 1) needed_refuted; answer = refusal 22 0 }
    ∷ record { asked = fewest needed_book 1 (needed_values 0) needed_refuted; answer = refusal 14 41 }
    ∷ record { asked = fewest needed_book 1 [] needed_refuted; answer = refusal 13 0 }
    ∷ record { asked = fewest capped_book 1 (capped_values 0 1 0) []; answer = refusal 21 0 }
    -- with n = 0 the refutation is empty, and nothing is asked of the slices
    ∷ record { asked = fewest capped_book 0 (capped_values 0 0 0) []; answer = yes-accepted }
    ∷ record { asked = fewest capped_book 0 (capped_values 0 0 0) needed_refuted; answer = refusal 21 0 }
    ∷ record { asked = fewest_lent 0 0 0 0 capped_book 0 (capped_values 0 0 0) []; answer = yes-accepted }
    ∷ record { asked = fewest_lent 0 0 0 0 capped_book 1 [] []; answer = refusal 12 0 }
    -- 12 by the formula under the lower cap, which has 140 words, 47 clauses and 17 variables, and 138 and 46 without a cap; it comes before 13
    ∷ record { asked = fewest_lent 138 46 17 17 needed_book 1 [] []; answer = refusal 12 0 }
    ∷ record { asked = fewest_lent 139 47 17 17 needed_book 1 [] []; answer = refusal 12 0 }
    ∷ record { asked = fewest_lent 140 46 17 17 needed_book 1 [] []; answer = refusal 12 0 }
    ∷ record { asked = fewest_lent 140 47 16 17 needed_book 1 [] []; answer = refusal 12 0 }
    ∷ record { asked = fewest_lent 140 47 17 16 needed_book 1 [] []; answer = refusal 12 0 }
    ∷ record { asked = fewest_lent 140 47 17 17 needed_book 1 [] []; answer = refusal 13 0 }
    -- and in its step, with one word and one clause more
    ∷ record { asked = fewest_lent 140 47 17 17 needed_book 1 (needed_values 1) needed_refuted; answer = refusal 12 0 }
    ∷ record { asked = fewest_lent 141 48 17 17 needed_book 1 (needed_values 1) needed_refuted; answer = yes-accepted }
    -- a book that is none; a step that does not follow
    ∷ record { asked = fewest [] 1 [] []; answer = refusal 1 0 }
    ∷ record { asked = fewest needed_book 1 (needed_values 1) (empty_step (1 ∷ [])); answer = refusal 20 1 }
    -- what the command prints
    ∷ record { asked = text (print_fewest needed_book 1 (needed_values 1) needed_refuted); answer = text accepted_line }
    ∷ record { asked = text (print_assignment (some 1) capped_book (capped_values 1 0 0)); answer = text (49 ∷ 51 ∷ 32 ∷ 48 ∷ 10 ∷ []) }
    ∷ record { asked = text (print_unpacking (some 1) capped_book (capped_values 1 0 0)); answer = text (49 ∷ 51 ∷ 32 ∷ 48 ∷ 10 ∷ []) }
    ∷ record { asked = text (print_plan (some 1) capped_book (capped_plan 1 1 0)); answer = text (50 ∷ 50 ∷ 32 ∷ 48 ∷ 10 ∷ []) }
    ∷ record { asked = text (print_refutation (some 0) needed_book needed_refuted); answer = text accepted_line }
    -- T is 1 to 256, and at least 1 in an old book; 9 for a TTD that a node of kind 1 or 2 may divide, and only there
    ∷ record { asked = totals_of (head_with 257 ++ node_frame 0 ++ end_frame) 0; answer = refusal 6 0 }
    ∷ record { asked = totals_of (head_with 0 ++ node_frame 0 ++ end_frame) 0; answer = refusal 6 0 }
    ∷ record { asked = rewrites (old_head 0) 99; answer = refusal 6 0 }
    ∷ record { asked = totals_of (unbreakable_book 0) 0; answer = refusal 12 0 }
    ∷ record { asked = totals_of (unbreakable_book 1) 0; answer = refusal 9 0 }
    ∷ record { asked = totals_of (unbreakable_book 2) 0; answer = refusal 9 0 }
    -- a refutation in its bytes: one frame of kind 20 with 14 bytes, no literal, hints 16, 17, 19
    ∷ record {
      asked = refuted (book_m 1) (14 ∷ 0 ∷ 20 ∷ 0 ∷ 0 ∷ 0 ∷ 16 ∷ 0 ∷ 0 ∷ 0 ∷ 17 ∷ 0 ∷ 0 ∷ 0 ∷ 19 ∷ 0 ∷ 0 ∷ 0 ∷ []);
      answer = yes-accepted;
    }
    -- 12 of a step has detail 0: the formula has 71 words, and the empty step needs one more
    ∷ record { asked = refuted_with 71 (book_m 0) (empty_step (19 ∷ [])); answer = refusal 12 0 }
    ∷ record { asked = refuted_with 72 (book_m 0) (empty_step (19 ∷ [])); answer = yes-accepted }
    -- "Comparing trains only at whole times lets two swap places"
    ∷ record { asked = encodes facing_book (0 ∷ 1 ∷ 0 ∷ 4 ∷ 0 ∷ 5 ∷ 0 ∷ []) 99; answer = refusal 16 6 }
    -- a node of kind 2 always has a border
    ∷ record { asked = clause_number 1 divided_book; answer = clause (one (pos 1)) }
    ∷ []

-- What the library answers beside the entry points. The answers are those of the reference.
pub asked : List Case
asked =
    -- of three nodes one is of kind 1
    record { asked = sizes divided_book; answer = rows ((1 ∷ 3 ∷ 1 ∷ 2 ∷ 1 ∷ 10 ∷ 21 ∷ 60 ∷ 5 ∷ []) ∷ []) }
    -- a section's label is its least segment; 12 comes before 15, which a byte and a length can break
    ∷ record { asked = labels (triple_book 3) (0 ∷ 1 ∷ 0 ∷ 0 ∷ []) 3; answer = text (0 ∷ 1 ∷ 1 ∷ []) }
    ∷ record { asked = labels (triple_book 3) (0 ∷ 2 ∷ 0 ∷ 0 ∷ []) 2; answer = refusal 12 0 }
    ∷ record { asked = labels (triple_book 3) (0 ∷ 2 ∷ 0 ∷ 0 ∷ []) 3; answer = refusal 15 0 }
    ∷ record { asked = labels (triple_book 3) (0 ∷ 1 ∷ 0 ∷ []) 3; answer = refusal 15 0 }
    -- a train of l = 2 has two runs
    ∷ record { asked = run_number (pair_book join_frame 101 36 (0 ∷ 2 ∷ [])) 0 1; answer = rows ((2 ∷ 2 ∷ []) ∷ (3 ∷ 1 ∷ []) ∷ []) }
    ∷ record { asked = run_number (pair_book join_frame 101 36 (0 ∷ 2 ∷ [])) 0 2; answer = rows ((2 ∷ []) ∷ []) }
    ∷ record { asked = run_number (pair_book join_frame 101 36 (0 ∷ 2 ∷ [])) 1 0; answer = rows [] }
    -- three borders, four runs, gone, two claims
    ∷ record { asked = variable_number divided_book 0; answer = rows [] }
    ∷ record { asked = variable_number divided_book 3; answer = rows ((98 ∷ 2 ∷ []) ∷ []) }
    ∷ record { asked = variable_number divided_book 7; answer = rows ((114 ∷ 0 ∷ 0 ∷ 3 ∷ []) ∷ []) }
    ∷ record { asked = variable_number divided_book 8; answer = rows ((103 ∷ 0 ∷ 0 ∷ []) ∷ []) }
    ∷ record { asked = variable_number divided_book 10; answer = rows ((99 ∷ 0 ∷ 0 ∷ 1 ∷ []) ∷ []) }
    ∷ record { asked = variable_number divided_book 11; answer = rows [] }
    -- under cap 1 of the capped book two variables more: at least one of the nodes of kind 1 up to 2, and up to 4
    ∷ record { asked = sizes_under 1 capped_book; answer = rows ((1 ∷ 6 ∷ 3 ∷ 1 ∷ 1 ∷ 12 ∷ 16 ∷ 44 ∷ 8 ∷ []) ∷ []) }
    ∷ record { asked = variable_under 1 capped_book 11; answer = rows ((107 ∷ 2 ∷ 1 ∷ []) ∷ []) }
    ∷ record { asked = variable_under 1 capped_book 12; answer = rows ((107 ∷ 4 ∷ 1 ∷ []) ∷ []) }
    ∷ record { asked = variable_under 1 capped_book 13; answer = rows [] }
    ∷ record { asked = variable_under 2 capped_book 12; answer = rows ((107 ∷ 4 ∷ 2 ∷ []) ∷ []) }
    ∷ []

-- the three tables
pub table : List Case
table = starred ++ (further ++ asked)

pub cases : map (λ c. c.asked) table ≡ map (λ c. c.answer) table
unfolding
    capped_book needed_book totals_under clause_under assigns_under encodes_under refuted_under capped_plan capped_values needed_values needed_refuted fewest fewest_lent
    table starred further asked answered sizes_over sizes sizes_under variable_under labels run_shown run_number meant variable_number old_l book_l new_l old_m old_head old_at old_twice long_book time head_with head_frame train_from call_of passing_book book_n facing_book speed_book leaving_book platform old_platform parting_book third_book judged both_go stands_and_goes gone_assigned stands_in_l calling_book unbreakable_book refuted_with divided_book totals_of decodes assigns encodes node_frame segment_frame train_frame call_frame end_frame pair_book join_frame book_m triple_book rewrites reach times run_list sections one_section clause_number empty_step refuted
    count up_to range each only all any pick empty last_or same has different sum_to least_from first_fault and_then
    little_endian number field signed unsigned digits decimal decimal_z nearest
    frame payload_length kind_field payload_of behind cut_short kind_number is_kind step_kind kind_order find_kind rank_in rank length_fits step_length_fits
    no_book node_kind_at segment_at train_at calls_of no_call goal_of is_exit denies_border forces_border greatest_node_kind touches share_node segment_of start_node end_node join_is joined length_in_segments speed_in_segments
    leads_to linked is_path directed goes_on extend paths_of runs_of start_place end_place contains
    segment_in join_in train_in call_in grown between head_fits segment_fits join_fits join_repeats train_fits reach_fits place_fits call_fits some_has may_divide content_faults add reading_start is_head is_end unknown_kind out_of_order kind_faults frame_faults add_found past_frame book_faults refuse_or frame_read_at read_frame read_from read_as read_book
    place_serves ends_at_exit may_leave train_length run_at call_at compile run_lists instance_of in_window served_at_departure is_free free_nodes_of
    neighbours together_below together section_labels share_section
    sizes_of measure_book borders_fit labelled_for label_sections run_among run_asked ask_run meanings_in meanings meaning_of ask_variable
    is_absent is_gone runs if_run of_run move_code move_of bit plan_bytes plan_length move_at plan_of is_bit is_move plan_fits rule1 absent_before departs rule2 leaves_rightly rule3 runs_on rule4 keeps_calls served_by rule5 trains_meet apart_in rule6 rule_faults broken_rule keeps_rules
    allows counter_for counter_of set_count set_among within_cap cap_variables count_var count_clause carry_clause cap_clauses cap_values cap_meanings
    width first_var base border_var run_var gone_var claim_var own_variables variables clauses_b clauses_c clauses_i clauses_d followers_e clause_e clauses_e servers_f claims_g clauses_g clauses_h family_a family_b family_c family_d family_e family_f family_g family_h family_i formula words_of dimacs_opening dimacs_line dimacs_text
    deny truth is_yes value_of is_true holds satisfies first_false assigned assignment_fits first_run chosen decoded decode claims encode
    step_payload file_of literal_count hint_count step_in variable_of rises_from literals_fit hints_fit make_true make_false refuting is_no is_open clause_at not_false hinted go_through follows_rule clauses_fit is_bad step_faults step_detail check_steps check_file
    demand find_none read_instance read_under formula_written written_for write_formula formula_text judge_assignment check_assignment unpacked_for unpack_plan judge_plan after_plan encoded_for check_plan formula_fits refuted_for check_refutation fewest_fits fewer_refuted fewest_for check_fewest
    padded in_digits aligned shown_move shown_of marked cell cells page_line page page_bytes page_for print_graph draws line_of row_book
    earliest meets_higher lower_train higher_train first_pair first_meeting cleared carries carriers entry carrier_list carrier_room carriers_for list_carriers lists standing standing_book in_row ring_of_four fork crossing stands stay
    times_widened widened_at widened widened_found frame_widened widened_from upgraded upgrade_book
    slice_bytes slice_of program_lent unless_long is_long accepted_line refusal_line printed print_formula print_assignment print_unpacking print_plan print_refutation print_fewest print_page print_carriers
cases = refl
