-- What a pen writes, part by part.
use Rattle.std.proofs.Common.{ℕ, ◌+◌, ◌<◌, List, [], ◌++◌, length, get_or, take, sym, refl, ap, ◌∙◌, add-zero, arith, length-append}
use Rattle.std.specs.List.{flat_map}
use Rattle.cnf.specs.declared.clause.Literal.{Literal}
use Rattle.cnf.specs.Clauses.{Clause}
use Rattle.sinks.specs.Lines.{literal_text}
use Rattle.sinks.specs.declared.pen.Pen.{Pen}
use Rattle.sinks.specs.Pens.{Room, Wrote}
use Rattle.sinks.proofs.Over.{over_none, over_next, length_over, texts_more, texts_part}

pub wrote_none : (p : Pen) → Wrote [] p p
wrote_none p = record { bytes = sym (over_none p.area.now p.at); end = sym (add-zero p.at); same_area = refl }

-- a text of two parts
module _ (xs ys : List ℕ) (p : Pen) (h : Room (xs ++ ys) p) where
  pub room_first : Room xs p
  room_first = omega (arith, length-append xs ys)

  pub room_next : (q : Pen) → Wrote xs p q → Room ys q
  room_next q u = omega (arith, length-append xs ys, u.end, ap length u.bytes ∙ length_over p.area.now p.at xs (omega arith) room_first)

  pub wrote_next : (q r : Pen) → Wrote xs p q → Wrote ys q r → Wrote (xs ++ ys) p r
  wrote_next q r u v = record {
    bytes = over_next p.area.now q.area.now r.area.now p.at q.at xs ys (omega (arith, room_first)) u.bytes u.end v.bytes;
    end = omega (arith, length-append xs ys, u.end, v.end);
    same_area = v.same_area ∙ u.same_area;
  }

-- the room for a literal of a clause, behind those before it
pub room_until : (c : Clause) (i : ℕ) (d : Literal) → i < length c → (p : Pen) → Room (flat_map literal_text c) p → Room (flat_map literal_text (take i c) ++ literal_text (get_or c i d)) p
room_until c i d lt p h = omega (arith, ap length (texts_more c i d lt), texts_part c (i + 1))
