pub mod LaterInputs
pub mod WhateverComes
pub mod Laws
