-- For a book that was read: a satisfying assignment decodes to a plan that keeps the rules and the formula's further
-- condition, and such a plan satisfies the formula through its assignment, which decodes to its bytes. Assumes nothing.
use mathlib.Core.Path.{◌≡◌, ◌∙◌}
use mathlib.Core.Option.{Option}
use Prim.Native.Nat.{ℕ, ◌<◌}
use mathlib.Core.List.{Memᴰ}
use lib.ListN.{length}
use lib.Dec.{T, eqb}
use Rattle.laws.proofs.Tests.{and-iff, eqb-iff, ltb_iff}
use Rattle.laws.proofs.Numbers.{bytes}
use Rattle.spec.specs.Lists.{Bytes, all, accepted}
use Rattle.spec.specs.Book.{Book}
use Rattle.spec.specs.Read.{read_book}
use Rattle.spec.specs.Instance.{Instance, instance_of, under}
use Rattle.spec.specs.Plan.{absent, gone, Plan, Move, run, of_run, is_move, IsPlan, is_bit, plan_fits, plan_of, keeps_rules}
use Rattle.spec.specs.Cap.{within_cap}
use Rattle.spec.specs.Formula.{formula, variables}
use Rattle.spec.specs.Assignment.{satisfies, assigned, assignment_fits, decode, decoded, encode}
use Rattle.demands.proofs.Wellformed.{Sound, sound, sound-under}
use Rattle.demands.proofs.Reading.{read-well-formed}
use Rattle.demands.proofs.Sections.{meet-sym}
use Rattle.demands.proofs.Meaning.{families}
use Rattle.demands.proofs.Coding.{Codes, codes-agree, codes-decoded}
use Rattle.demands.proofs.Moves.{kept}
use Rattle.demands.proofs.Rules.{satisfied-keeps}
use Rattle.demands.proofs.Satisfied.{kept-satisfies}
use Rattle.demands.proofs.Cap.{cap-kept, cap-satisfied, cap-length, cap-bits}
use Rattle.demands.proofs.Encoding.{length-encode, encode-bits, codes-encoded, assigned-claim, agree-read, fits_read, shape, bytes_back, codes_same, same_bytes}

module _ (cap : Option ℕ) (book : Bytes) (b : Book) (read : read_book book ≡ accepted b) where
  abbrev I : Instance
  I = under cap (instance_of b)

  pub facts : Sound (under cap (instance_of b))
  facts = sound-under cap (sound b (read-well-formed book b read))

  -- a plan that keeps the rules satisfies the formula through its assignment
  pub plan-satisfies : (p : Plan) → IsPlan (under cap (instance_of b)) p → T (keeps_rules (under cap (instance_of b)) p) → T (within_cap (under cap (instance_of b)) p)
      → T (satisfies (assigned (encode (under cap (instance_of b)) p)) (formula (under cap (instance_of b))))
  plan-satisfies p moves keeps more =
      kept-satisfies I _ p (codes-encoded I p moves) (kept I p keeps) facts.departs (assigned-claim I p)
      (λ i l r k. facts.inside i r l k) (meet-sym b) (cap-satisfied I p moves more)

  -- and its assignment is well formed
  pub plan-fits : (p : Plan) → T (assignment_fits (under cap (instance_of b)) (encode (under cap (instance_of b)) p))
  unfolding assignment_fits
  plan-fits p =
      (and-iff (eqb (length (encode I p)) (variables I)) (all is_bit (encode I p))).1
      ((eqb-iff (length (encode I p)) (variables I)).1 (length-encode I p (cap-length I p)), encode-bits I p (cap-bits I p))

  -- the segments of a move are segments of the book
  pub run_inside : (i : ℕ) → i < (under cap (instance_of b)).trains → (m : Move) → T (is_move (under cap (instance_of b)) i m) → (u : ℕ)
      → Memᴰ u (of_run m (λ r. (under cap (instance_of b)).path i r)) → u < (under cap (instance_of b)).segments
  unfolding of_run is_move
  run_inside i l absent h u m = elim m [ ]
  run_inside i l (run r) h u m = facts.inside i r l ((ltb_iff r _).0 h) u m
  run_inside i l gone h u m = elim m [ ]

  -- what a satisfying assignment decodes to is coded by it
  pub decoded-coded : (s : Bytes) → T (satisfies (assigned s) (formula (under cap (instance_of b)))) → Codes (under cap (instance_of b)) (assigned s) (plan_of (under cap (instance_of b)) (decode (under cap (instance_of b)) s))
  unfolding decode
  decoded-coded s sat =
      let fam = families I (assigned s) sat in
      let code = codes-decoded I (assigned s) fam.B fam.C in
      codes-agree code (agree-read I (decoded I (assigned s)) facts.few_runs code.moves)

  pub decoded-fits : (s : Bytes) → T (satisfies (assigned s) (formula (under cap (instance_of b)))) → T (plan_fits (under cap (instance_of b)) (decode (under cap (instance_of b)) s))
  unfolding decode
  decoded-fits s sat =
      let fam = families I (assigned s) sat in
      fits_read I (decoded I (assigned s)) facts.few_runs (codes-decoded I (assigned s) fam.B fam.C).moves

  pub decoded-keeps : (s : Bytes) → T (satisfies (assigned s) (formula (under cap (instance_of b))))
      → T (keeps_rules (under cap (instance_of b)) (plan_of (under cap (instance_of b)) (decode (under cap (instance_of b)) s)))
  decoded-keeps s sat =
      satisfied-keeps I (assigned s) _ (decoded-coded s sat) (families I (assigned s) sat) facts.departs (λ i l r k. facts.inside i r l k)

  pub decoded-within : (s : Bytes) → T (satisfies (assigned s) (formula (under cap (instance_of b))))
      → T (within_cap (under cap (instance_of b)) (plan_of (under cap (instance_of b)) (decode (under cap (instance_of b)) s)))
  decoded-within s sat = cap-kept I _ (assigned s) (decoded-coded s sat) (families I (assigned s) sat).extra

  -- a plan's assignment decodes to the plan's bytes
  pub decode-encoded : (s : Bytes) → T (bytes s) → T (plan_fits (under cap (instance_of b)) s) → T (keeps_rules (under cap (instance_of b)) (plan_of (under cap (instance_of b)) s))
      → T (within_cap (under cap (instance_of b)) (plan_of (under cap (instance_of b)) s)) → decode (under cap (instance_of b)) (encode (under cap (instance_of b)) (plan_of (under cap (instance_of b)) s)) ≡ s
  unfolding decode
  decode-encoded s is_bytes fits keeps more =
      let p = plan_of I s in
      let moves = (shape I s is_bytes fits).2 in
      let α = assigned (encode I p) in
      let fam = families I α (plan-satisfies p moves keeps more) in
      same_bytes I (decoded I α) p (codes_same I α (decoded I α) p (codes-decoded I α fam.B fam.C) (codes-encoded I p moves))
      ∙ bytes_back I s is_bytes fits
