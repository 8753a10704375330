-- A text that is written piece by piece, each piece the next: what the writer holds, where that is known, grows by the text as far as it was written.
-- Assumes nothing.
use Rattle.std.proofs.Common.{◌≡◌, ℕ, ◌+◌, ◌-◌, ◌≤◌, List, length, take, drop, sym, ap, ◌∙◌, subst, arith, take_all, take-add, take-take, length-take, length-drop, Result, Ok, Err, OnErr}
use Rattle.std.specs.declared.option.Option.{Option}
use Rattle.std.specs.Io.KnownBytes.{Appends}
use Rattle.std.proofs.KnownBytes.{Appends-nil, Appends-trans}
use Rattle.streams.specs.Writing.{Next, WritesFront}

-- nothing is written yet
pub writes_none : (a : Option (List ℕ)) (text : List ℕ) → Appends a a (take 0 text)
writes_none a text = Appends-nil a

-- so many bytes more, of those that come next
pub writes_more : (a b c : Option (List ℕ)) (text : List ℕ) (count more : ℕ) → Appends a b (take count text) → Appends b c (take more (drop count text)) → Appends a c (take (count + more) text)
writes_more a b c text count more p q = subst (Appends a c) (sym (take-add count more text)) (Appends-trans a b c _ _ p q)

-- one piece more
pub writes_on : (a b c : Option (List ℕ)) (text bytes : List ℕ) (count next : ℕ) → next ≡ count + length bytes → Appends a b (take count text) → Appends b c bytes → Next text count bytes → Appends a c (take next text)
writes_on a b c text bytes count next e p q n = subst (λ (k : ℕ). Appends a c (take k text)) (sym e) (writes_more a b c text count (length bytes) p (subst (Appends b c) n q))

-- a front of one piece more
pub writes_front : (a b c : Option (List ℕ)) (text bytes : List ℕ) (count : ℕ) → count ≤ length text → Appends a b (take count text) → Next text count bytes → WritesFront bytes b c → WritesFront text a c
writes_front a b c text bytes count h p n f =
    let same : take f.count bytes ≡ take f.count (drop count text) = ap (take f.count) n ∙ take-take f.count (length bytes) (drop count text) f.within in
    let long : length bytes ≤ length text - count = omega (arith, ap length n, length-take (length bytes) (drop count text), length-drop count text) in
    record { count = count + f.count; within = omega (arith, h, long, f.within); appends = writes_more a b c text count f.count p (subst (Appends b c) same f.appends) }

-- the whole text
pub writes_all : (a b : Option (List ℕ)) (text : List ℕ) (count : ℕ) → count ≡ length text → Appends a b (take count text) → Appends a b text
writes_all a b text count e p = subst (Appends a b) (take_all count text (omega (arith, e))) p

-- what holds, whatever the error, holds on an error
pub on_err : {T E : Type 0} (r : Result T E) (P : Type 0) → P → OnErr r P
on_err (Ok x) P p = tt
on_err (Err e) P p = p
