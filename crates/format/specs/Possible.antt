-- What can be done, with what comes of it; or what no file has.

pub data Possible (A : Type 0) : Type 0 where
  this : A → Possible A
  cannot : Possible A
