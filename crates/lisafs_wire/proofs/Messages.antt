-- The two laws of messages: what is read is spelled so, and what is spelled so is read.
use Rattle.std.proofs.Common.{◌≡◌, ℕ, zero, suc, ◌+◌, ◌-◌, ◌^◌, ◌<◌, ◌≤◌, Bool, true, false, ◌&&◌, not, cond, ltb}
use Rattle.std.proofs.Common.{eqb, List, [], ◌∷◌, ◌++◌, length, take, drop, Option, Some, None, Result, Ok, Err, refl}
use Rattle.std.proofs.Common.{sym, ap, subst, ◌∙◌, append_assoc, arith}
use Rattle.std.specs.Prelude.{is_some, slice_range, IfOk}
use Rattle.std.proofs.lemmas.Bool.{ltb-false, le-ltb, eqb-true}
use Rattle.std.proofs.lemmas.List.{append-nil, nil_from_length, length-append, length-drop, length-take-le, take_at}
use Rattle.std.proofs.lemmas.List.{drop_at, take_all, take-append-drop}
use Rattle.std.proofs.Math.Seq.{drop-nil, drop-length}
use Rattle.sn_bytes.specs.Fields.{little, field, little_bytes}
use Rattle.lisafs_wire.specs.declared.fault.WireFault.{WireFault}
use Rattle.lisafs_wire.specs.declared.fault.WireFault.TheVariants as faults
use Rattle.lisafs_wire.specs.declared.fault.DecodeError.{DecodeError}
use Rattle.lisafs_wire.specs.Grammar.{Layout, layout_of}
use Rattle.lisafs_wire.specs.Spelling.{Message, IsLaidOut, IsMessageOf, spelled_all, spelled_behind, body_of}
use Rattle.lisafs_wire.specs.Spelling.{header_of, spelling}
use Rattle.lisafs_wire.specs.Reading.{◌>>=◌, Front, GivesIfRoom, checked_front, front_at, header_at, is_all}
use Rattle.lisafs_wire.specs.Reading.{values_at, behind_at, body_at, laid_out_at, numbered_at, message_at}
use Rattle.lisafs_wire.proofs.Numbers.{IsBytes, IsBytes-drop, IsBytes-take, bind_ok, ok_is, guard_ok, allow_ok, Takes}
use Rattle.lisafs_wire.proofs.Numbers.{Takes-then, length-little_bytes, little-little_bytes, little_bytes-little}
use Rattle.lisafs_wire.proofs.Values.{values_take, values_again, behind_takes, behind_again}
use Rattle.lisafs_wire.proofs.Sizes.{IsSound, both}

-- ---- bodies

-- what a body's reader took is the body of a message of that number
pub record TakesBody (number : ℕ) (found : Option Layout) (bytes : List ℕ) (x : Message × List ℕ) : Type 0 where
  pub taken : Takes bytes (body_of found x.0) x.1
  pub laid_out : IsLaidOut found x.0
  pub numbered : x.0.number ≡ number

body_takes : (number : ℕ) (layout : Layout) (bytes : List ℕ) (x : Message × List ℕ) → IsBytes bytes
    → body_at number layout bytes ≡ Ok x → TakesBody number (Some layout) bytes x
body_takes number layout bytes x fits e =
    let b = bind_ok (values_at layout.fields bytes)
    (λ v. behind_at layout.groups v.1 >>= λ g. Ok
    (record { number = number; values = v.0; groups = g.0 }, g.1)) x e in
    let c = bind_ok (behind_at layout.groups b.0.1)
    (λ g. Ok (record { number = number; values = b.0.0; groups = g.0 }, g.1)) x b.2 in
    let t = values_take layout.fields bytes b.0 fits b.1 in
    let u = behind_takes layout.groups b.0.1 c.0 t.0.rest_fits c.1 in
    let made : Message × List ℕ = (record { number = number; values = b.0.0; groups = c.0.0 }, c.0.1) in
    subst (TakesBody number (Some layout) bytes) (ok_is made x c.2) (record {
      taken = Takes-then bytes (spelled_all layout.fields b.0.0) b.0.1
          (spelled_behind layout.groups c.0.0) c.0.1 t.0 u.0;
      laid_out = (t.1, u.1);
      numbered = refl;
    })

laid_out_takes : (number : ℕ) (found : Option Layout) (bytes : List ℕ) (x : Message × List ℕ) → IsBytes bytes
    → laid_out_at number found bytes ≡ Ok x → TakesBody number found bytes x
laid_out_takes number None bytes x fits e = absurd cc
laid_out_takes number (Some layout) bytes x fits e = body_takes number layout bytes x fits e

laid_out_again : (found : Option Layout) (message : Message) → IsLaidOut found message
    → laid_out_at message.number found (body_of found message) ≡ Ok (message, [])
laid_out_again None message h = absurd h
laid_out_again (Some layout) message h =
    ap (body_at message.number layout)
    (sym (append-nil (spelled_all layout.fields message.values ++ spelled_behind layout.groups message.groups)))
    ∙ ap (body_at message.number layout)
    (append_assoc (spelled_all layout.fields message.values) (spelled_behind layout.groups message.groups) [])
    ∙ rw (
      values_again layout.fields message.values (spelled_behind layout.groups message.groups ++ []) h.0,
      behind_again layout.groups message.groups [] h.1,
    ) refl

-- ---- fronts

drop_drop : (m n : ℕ) (xs : List ℕ) → drop m (drop n xs) ≡ drop (n + m) xs
drop_drop m zero xs =
    let same : m ≡ 0 + m = omega arith in
    ap (λ (k : ℕ). drop k xs) same
drop_drop m (suc n) [] = drop-nil m ∙ sym (drop-nil (suc n + m))
drop_drop m (suc n) (x ∷ xs) =
    let same : suc (n + m) ≡ suc n + m = omega arith in
    drop_drop m n xs ∙ ap (λ (k : ℕ). drop k (x ∷ xs)) same

-- a field of some bytes, and the bytes behind it
field_parts : (width at : ℕ) (bytes : List ℕ) → IsBytes bytes → at + width ≤ length bytes
    → drop at bytes ≡ little_bytes width (field width at bytes) ++ drop (at + width) bytes
field_parts width at bytes fits long =
    let size : at + width - at ≡ width = omega arith in
    let inside : width ≤ length (drop at bytes) = omega (arith, length-drop at bytes) in
    let part : List ℕ = take width (drop at bytes) in
    let part_size : length part ≡ width = length-take-le width (drop at bytes) inside in
    let text : little_bytes width (little part) ≡ part
    = subst (λ (w : ℕ). little_bytes w (little part) ≡ part) part_size
    (little_bytes-little part (IsBytes-take width (drop at bytes) (IsBytes-drop at bytes fits))) in
    let number : field width at bytes ≡ little part = ap (λ (w : ℕ). little (take w (drop at bytes))) size in
    sym (take-append-drop width (drop at bytes))
    ∙ ap (λ (t : List ℕ). t ++ drop width (drop at bytes)) (sym text ∙ ap (little_bytes width) (sym number))
    ∙ ap (λ (t : List ℕ). little_bytes width (field width at bytes) ++ t) (drop_drop width at bytes)

-- a field that is written behind some bytes
field_again : (width n : ℕ) (front rest : List ℕ) → n < 256 ^ width
    → field width (length front) (front ++ (little_bytes width n ++ rest)) ≡ n
field_again width n front rest fits =
    let size : length front + width - length front ≡ width = omega arith in
    ap (λ (w : ℕ). little (take w (drop (length front) (front ++ (little_bytes width n ++ rest))))) size
    ∙ ap (λ (t : List ℕ). little (take width t)) (drop_at front (little_bytes width n ++ rest) (length front) refl)
    ∙ ap little (take_at (little_bytes width n) rest width (length-little_bytes width n))
    ∙ little-little_bytes width n fits

-- what a front that was read says of the bytes
record BeginsBy (bytes : List ℕ) (front : Front) : Type 0 where
  pub room : 8 ≤ field 4 0 bytes
  pub inside : field 4 0 bytes ≤ length bytes
  pub number : front.number ≡ field 2 4 bytes
  pub zero_field : front.zero_field ≡ field 2 6 bytes
  pub body : front.body ≡ slice_range bytes 8 (field 4 0 bytes)
  pub more : front.more ≡ drop (field 4 0 bytes) bytes

front_takes : (bytes : List ℕ) (front : Front) → front_at bytes ≡ Ok front → BeginsBy bytes front
unfolding front_at
front_takes bytes front e =
    let size = field 4 0 bytes in
    let found : Front = record {
      number = field 2 4 bytes;
      zero_field = field 2 6 bytes;
      body = slice_range bytes 8 size;
      more = drop size bytes;
    } in
    let a = guard_ok (ltb (length bytes) 8) faults.Short
    (cond (ltb size 8) (Err faults.Length)
    (cond (ltb (length bytes) size) (Err faults.Short) (Ok found))) front e in
    let b = guard_ok (ltb size 8) faults.Length
    (cond (ltb (length bytes) size) (Err faults.Short) (Ok found)) front a.1 in
    let c = guard_ok (ltb (length bytes) size) faults.Short (Ok found) front b.1 in
    subst (BeginsBy bytes) (ok_is found front c.1) (record {
      room = ltb-false size 8 b.0;
      inside = ltb-false (length bytes) size c.0;
      number = refl;
      zero_field = refl;
      body = refl;
      more = refl;
    })

-- a number that a table has, and a zero that is one
record IsHeaderOf (table : List (ℕ × Layout)) (bytes : List ℕ) (front : Front) : Type 0 where
  pub begins : BeginsBy bytes front
  pub is_zero : front.zero_field ≡ 0

not_true : (b : Bool) → not b ≡ false → b ≡ true
not_true true e = refl
not_true false e = absurd cc

header_takes : (table : List (ℕ × Layout)) (bytes : List ℕ) (front : Front) → header_at table bytes ≡ Ok front
    → IsHeaderOf table bytes front
header_takes table bytes front e =
    let a = bind_ok (front_at bytes) (λ f. checked_front (is_some (layout_of table f.number)) f) front e in
    let b = guard_ok (not (is_some (layout_of table a.0.number))) faults.Unknown
    (cond (not (eqb a.0.zero_field 0)) (Err faults.Field) (Ok a.0)) front a.2 in
    let c = guard_ok (not (eqb a.0.zero_field 0)) faults.Field (Ok a.0) front b.1 in
    subst (IsHeaderOf table bytes) (ok_is a.0 front c.1)
    (record {
      begins = front_takes bytes a.0 a.1;
      is_zero = eqb-true a.0.zero_field 0 (not_true (eqb a.0.zero_field 0) c.0);
    })

-- the bytes of a message are its header and its body
header_parts : (bytes : List ℕ) → IsBytes bytes → 8 ≤ length bytes → field 2 6 bytes ≡ 0
    → bytes ≡ (little_bytes 4 (field 4 0 bytes) ++ little_bytes 2 (field 2 4 bytes) ++ little_bytes 2 0) ++ drop 8 bytes
unfolding little_bytes
header_parts bytes fits long is_zero =
    let size = little_bytes 4 (field 4 0 bytes) in
    let number = little_bytes 2 (field 2 4 bytes) in
    let a : bytes ≡ size ++ drop 4 bytes = field_parts 4 0 bytes fits (omega (arith, long)) in
    let b : drop 4 bytes ≡ number ++ drop 6 bytes = field_parts 2 4 bytes fits (omega (arith, long)) in
    let c : drop 6 bytes ≡ little_bytes 2 0 ++ drop 8 bytes
    = field_parts 2 6 bytes fits (omega (arith, long)) ∙ ap (λ (k : ℕ). little_bytes 2 k ++ drop 8 bytes) is_zero in
    a ∙ ap (λ (t : List ℕ). size ++ t)
    (b ∙ ap (λ (t : List ℕ). number ++ t) c ∙ sym (append_assoc number (little_bytes 2 0) (drop 8 bytes)))
    ∙ sym (append_assoc size (number ++ little_bytes 2 0) (drop 8 bytes))

empty_both : (a b : List ℕ) → (eqb (length a) 0 && eqb (length b) 0) ≡ true → (a ≡ []) × (b ≡ [])
empty_both a b e =
    let h = both (eqb (length a) 0) (eqb (length b) 0) e in
    (nil_from_length a (eqb-true (length a) 0 h.0), nil_from_length b (eqb-true (length b) 0 h.1))

-- what a table's message is, where its body is all that stands behind the header
whole_spelling : (table : List (ℕ × Layout)) (bytes body : List ℕ) (message : Message)
    → body ≡ body_of (layout_of table message.number) message
    → bytes ≡ header_of (length body) message.number ++ body → bytes ≡ spelling table message
unfolding spelling
whole_spelling table bytes body message is e = e ∙ ap (λ (t : List ℕ). header_of (length t) message.number ++ t) is

pub message_takes : (table : List (ℕ × Layout)) (bytes : List ℕ) (message : Message) → IsBytes bytes
    → message_at table bytes ≡ Ok message
    → IsMessageOf table message × (bytes ≡ spelling table message)
unfolding message_at
message_takes table bytes message fits e =
    let a = bind_ok (header_at table bytes)
    (λ f. numbered_at table f.number f.body >>= λ x. cond (is_all x.1 f.more) (Ok x.0)
    (Err faults.Trailing)) message e in
    let b = bind_ok (numbered_at table a.0.number a.0.body)
    (λ x. cond (is_all x.1 a.0.more) (Ok x.0) (Err faults.Trailing)) message a.2 in
    let c = allow_ok (is_all b.0.1 a.0.more) faults.Trailing (Ok b.0.0) message b.2 in
    let none = empty_both b.0.1 a.0.more c.0 in
    let h = header_takes table bytes a.0 a.1 in
    let size = field 4 0 bytes in
    let ends : length bytes ≤ size = omega (arith, length-drop size bytes, ap length (sym h.begins.more ∙ none.1)) in
    let same : size ≡ length bytes = omega (arith, ends, h.begins.inside) in
    let room : 8 ≤ length bytes = omega (arith, h.begins.room, h.begins.inside) in
    let body_is : a.0.body ≡ drop 8 bytes = h.begins.body
    ∙ take_all (size - 8) (drop 8 bytes) (omega (arith, length-drop 8 bytes, same)) in
    let body_fits : IsBytes a.0.body = subst IsBytes (sym body_is) (IsBytes-drop 8 bytes fits) in
    let t = laid_out_takes a.0.number (layout_of table a.0.number) a.0.body b.0 body_fits b.1 in
    let laid_out : IsMessageOf table b.0.0
    = subst (λ (k : ℕ). IsLaidOut (layout_of table k) b.0.0) (sym t.numbered) t.laid_out in
    let body : a.0.body ≡ body_of (layout_of table b.0.0.number) b.0.0
    = t.taken.parts ∙ ap (λ (r : List ℕ). body_of (layout_of table a.0.number) b.0.0 ++ r) none.0
    ∙ append-nil (body_of (layout_of table a.0.number) b.0.0)
    ∙ ap (λ (k : ℕ). body_of (layout_of table k) b.0.0) (sym t.numbered) in
    let number : field 2 4 bytes ≡ b.0.0.number = sym h.begins.number ∙ sym t.numbered in
    let length_is : size ≡ 8 + length a.0.body = omega (arith, same, room, ap length body_is, length-drop 8 bytes) in
    let parts = header_parts bytes fits room (sym h.begins.zero_field ∙ h.is_zero) in
    let text : bytes ≡ header_of (length a.0.body) b.0.0.number ++ a.0.body
    = parts ∙ ap (λ (k : ℕ).
    (little_bytes 4 k ++ little_bytes 2 (field 2 4 bytes) ++ little_bytes 2 0) ++ drop 8 bytes) length_is
    ∙ ap (λ (k : ℕ). (little_bytes 4 (8 + length a.0.body) ++ little_bytes 2 k ++ little_bytes 2 0)
    ++ drop 8 bytes) number
    ∙ ap (λ (r : List ℕ). (little_bytes 4 (8 + length a.0.body) ++ little_bytes 2 b.0.0.number ++ little_bytes 2 0)
    ++ r) (sym body_is) in
    subst (λ (m : Message). IsMessageOf table m × (bytes ≡ spelling table m)) (ok_is b.0.0 message c.1)
    (laid_out, whole_spelling table bytes a.0.body b.0.0 body text)

-- ---- what is spelled so is read

header_size : (size number : ℕ) → length (header_of size number) ≡ 8
unfolding little_bytes
header_size size number = refl

-- the three fields of a header that was written
record HeaderFields (size number : ℕ) (body : List ℕ) : Type 0 where
  pub size_is : field 4 0 (header_of size number ++ body) ≡ 8 + size
  pub number_is : field 2 4 (header_of size number ++ body) ≡ number
  pub zero_is : field 2 6 (header_of size number ++ body) ≡ 0

header_fields : (size number : ℕ) (body : List ℕ) → 8 + size < 256 ^ 4 → number < 256 ^ 2
    → HeaderFields size number body
unfolding little_bytes
header_fields size number body long fits =
    let a = little_bytes 4 (8 + size) in
    let b = little_bytes 2 number in
    let c = little_bytes 2 0 in
    let one : header_of size number ++ body ≡ a ++ (b ++ (c ++ body)) = append_assoc a (b ++ c) body
    ∙ ap (λ (t : List ℕ). a ++ t) (append_assoc b c body) in
    let two : header_of size number ++ body ≡ (a ++ b) ++ (c ++ body) = one ∙ sym (append_assoc a b (c ++ body)) in
    let four : length a ≡ 4 = length-little_bytes 4 (8 + size) in
    let six : length (a ++ b) ≡ 6 = omega (arith, length-append a b, four, length-little_bytes 2 number) in
    record {
      size_is = ap (field 4 0) one ∙ field_again 4 (8 + size) [] (b ++ (c ++ body)) long;
      number_is = ap (field 2 4) one ∙ ap (λ (k : ℕ). field 2 k (a ++ (b ++ (c ++ body)))) (sym four)
          ∙ field_again 2 number a (c ++ body) fits;
      zero_is = ap (field 2 6) two ∙ ap (λ (k : ℕ). field 2 k ((a ++ b) ++ (c ++ body))) (sym six)
          ∙ field_again 2 0 (a ++ b) body (omega arith);
    }

front_again : (size number : ℕ) (body : List ℕ) → 8 + size < 256 ^ 4 → number < 256 ^ 2 → size ≡ length body
    → front_at (header_of size number ++ body) ≡ Ok (record { number = number; zero_field = 0; body = body; more = [] })
unfolding front_at
front_again size number body long fits same =
    let bytes = header_of size number ++ body in
    let f = header_fields size number body long fits in
    let front = header_size size number in
    let all : length bytes ≡ 8 + size = omega (arith, length-append (header_of size number) body, front, same) in
    let a : ltb (length bytes) 8 ≡ false = le-ltb _ _ (omega (arith, all)) in
    let b : ltb (8 + size) 8 ≡ false = le-ltb _ _ (omega arith) in
    let c : ltb (length bytes) (8 + size) ≡ false = le-ltb _ _ (omega (arith, all)) in
    let body_is : slice_range bytes 8 (8 + size) ≡ body
    = ap (take (8 + size - 8)) (drop_at (header_of size number) body 8 front)
    ∙ take_all (8 + size - 8) body (omega (arith, same)) in
    let more_is : drop (8 + size) bytes ≡ [] = ap (λ (k : ℕ). drop k bytes) (sym all) ∙ drop-length bytes in
    rw (f.size_is, a, b, c, f.number_is, f.zero_is, body_is, more_is) refl

pub some_layout : (found : Option Layout) (message : Message) → IsLaidOut found message → is_some found ≡ true
some_layout None message h = absurd h
some_layout (Some layout) message h = refl

pub message_again : (table : List (ℕ × Layout)) (message : Message) → IsSound table → IsMessageOf table message
    → message_at table (spelling table message) ≡ Ok message
unfolding message_at spelling
message_again table message sound h =
    let body = body_of (layout_of table message.number) message in
    let front : front_at (header_of (length body) message.number ++ body)
    ≡ Ok (record { number = message.number; zero_field = 0; body = body; more = [] })
    = front_again (length body) message.number body (sound.size message h) (sound.number message h) refl in
    rw (
      front,
      some_layout (layout_of table message.number) message h,
      laid_out_again (layout_of table message.number) message h,
    ) refl

-- what is spelled so is read
pub is_read : (Gives : Result Message WireFault → Type 0) (table : List (ℕ × Layout)) (bytes : List ℕ)
    (message : Message)
    → IsSound table → IsMessageOf table message → bytes ≡ spelling table message → Gives (message_at table bytes)
    → Gives (Ok message)
is_read Gives table bytes message sound h e read =
    subst Gives (ap (message_at table) e ∙ message_again table message sound h) read

-- what is read is spelled so
pub found : {A : Type 0} (table : List (ℕ × Layout)) (view : A → Message) (r : Result A DecodeError) (bytes : List ℕ)
    → IsBytes bytes → GivesIfRoom view r (message_at table bytes)
    → IfOk r (λ x. IsMessageOf table (view x) × (bytes ≡ spelling table (view x)))
found table view (Ok x) bytes fits read = message_takes table bytes (view x) fits read
found table view (Err e) bytes fits read = tt

-- ---- no spelling begins another

pub one_spelling : (table : List (ℕ × Layout)) → IsSound table → (a b : Message) (more : List ℕ) → IsMessageOf table a
    → IsMessageOf table b
    → spelling table a ++ more ≡ spelling table b → (a ≡ b) × (more ≡ [])
unfolding spelling
one_spelling table sound a b more ha hb e =
    let body_a = body_of (layout_of table a.number) a in
    let body_b = body_of (layout_of table b.number) b in
    let fa = header_fields (length body_a) a.number (body_a ++ more) (sound.size a ha) (sound.number a ha) in
    let fb = header_fields (length body_b) b.number body_b (sound.size b hb) (sound.number b hb) in
    let e' : header_of (length body_a) a.number ++ (body_a ++ more) ≡ header_of (length body_b) b.number ++ body_b
    = sym (append_assoc (header_of (length body_a) a.number) body_a more) ∙ e in
    let sizes : 8 + length body_a ≡ 8 + length body_b = sym fa.size_is ∙ ap (field 4 0) e' ∙ fb.size_is in
    let lengths = ap length e' in
    let none : more ≡ [] = nil_from_length more
    (omega (
      arith,
      sizes,
      lengths,
      length-append (header_of (length body_a) a.number) (body_a ++ more),
      length-append body_a more,
      length-append (header_of (length body_b) b.number) body_b,
      header_size (length body_a) a.number,
      header_size (length body_b) b.number,
    )) in
    let same : spelling table a ≡ spelling table b = sym (append-nil (spelling table a))
    ∙ ap (λ (r : List ℕ). spelling table a ++ r) (sym none) ∙ e in (
      ok_is a b (sym (message_again table a sound ha) ∙ ap (message_at table) same ∙ message_again table b sound hb),
      none,
    )
