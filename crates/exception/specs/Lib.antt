pub mod Vectors
pub mod Kinds
pub mod Epilogue
pub mod Taking
pub mod Returning
