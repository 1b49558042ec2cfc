-- What an ending call says leads to what is wanted.
use Rattle.std.proofs.Common.{Result, Ok, Err, OnOk}

pub then_ok : {X E : Type 0} (r : Result X E) (P Q : Type 0) → (P → Q) → OnOk r P → OnOk r Q
then_ok (Ok x) P Q f h = f h
then_ok (Err e) P Q f h = tt
